-- What a leg admits, and why it admits nothing. Lengths are in decimetres, ranks are counted from
-- 1, layers from 0.
use Rattle.std.specs.Prelude.{◌≡◌, ℕ, ◌+◌, ◌*◌, ◌<◌, ◌≤◌, ⊤, List, [], Option, None, Some, MatchOption, length, is_some, count_by, slice_get, slice_index_or, take}
use Rattle.olr_why.specs.Common.{Candidate, Next, Place, RoadMap, Tolerances}
use Rattle.olr_matching.specs.Layers.{LayersValue, LeadsOn}
use Rattle.olr_matching.specs.Leg.{class_limit, greatest_admitted, least_admitted}
use Rattle.olr_route.specs.Least.{IsLeastLength, IsLengthWithin}
use Rattle.olr_why.specs.declared.leg.LegReason.{LegReason}
use Rattle.olr_why.specs.declared.pair.Better.{Better}
use Rattle.olr_why.specs.declared.pair.PairLength.{PairLength}

-- the greatest length that the leg admits with any percent and any slack
abbrev pub far : Next → ℕ
far next = 1172 * (next.interval + 1) + 10000

-- a length is less than another one; any length is less than none
abbrev pub IsLess : ℕ → Option ℕ → Type 0
IsLess length other = MatchOption other ⊤ (λ known. length < known)

-- there is a length, and it is at most the greatest one that the leg admits
abbrev pub IsUpTo : Option ℕ → ℕ → Type 0
IsUpTo None greatest = ⊥
IsUpTo (Some length) greatest = length ≤ greatest

module _ (road : RoadMap) (next : Next) (from to : Place) where
  -- under a class limit the least length from one place to another is less than a known one, and at
  -- most `far`
  pub record IsShorterUnder (known : Option ℕ) (class length : ℕ) : Type 0 where
    pub least : IsLeastLength road class from to length
    pub within : length ≤ far next
    pub less : IsLess length known

  -- the least class limit above this one and below `end` under which the least length is less than
  -- the known one, if there is one
  abbrev pub IsBetter : ℕ → ℕ → Option ℕ → Option Better → Type 0
  IsBetter class end known answer = MatchOption answer
      ((other length : ℕ) → class < other → other < end → IsShorterUnder known other length → ⊥)
      (λ better. (class < better.class) × (better.class < end)
      × IsShorterUnder known better.class better.length
      × ((other length : ℕ) → class < other → other < better.class
      → IsShorterUnder known other length → ⊥))

module _ (road : RoadMap) (tolerances : Tolerances) (next : Next) where
  -- Two candidates of a leg, of these ranks and at these places: the least length between them
  -- under the leg's class limit, where that is at most `far`; and, where there is none, or it is
  -- greater than the leg admits, the least class limit above the leg's and below `end` under which
  -- there is a lesser one that is at most `far`.
  pub record IsPairLength (end first second : ℕ) (from to : Place) (pair : PairLength) : Type 0
    where
      pub first_is : pair.first ≡ first
      pub second_is : pair.second ≡ second
      pub length : IsLengthWithin road (class_limit tolerances next) from to (far next) pair.length
      pub short : IsUpTo pair.length (greatest_admitted tolerances next) → pair.better ≡ None
      pub better : (IsUpTo pair.length (greatest_admitted tolerances next) → ⊥)
          → IsBetter road next from to (class_limit tolerances next) end pair.length pair.better

  -- Exactly the pairs of one of the first candidates and one of the second ones, by the first and
  -- then by the second. Class limits go up to 7.
  pub record ArePairs (firsts seconds : List Candidate) (pairs : List PairLength) : Type 0 where
    pub count : length pairs ≡ length firsts * length seconds
    pub each : (first second : ℕ) (from to : Candidate) (pair : PairLength)
        → slice_get firsts first ≡ Some from → slice_get seconds second ≡ Some to
        → slice_get pairs (first * length seconds + second) ≡ Some pair
        → IsPairLength 8 (first + 1) (second + 1) from.place to.place pair

-- The leg from a layer: its class limit, its interval as it is widened, and how many pairs of
-- candidates it admits, of all pairs. Where it admits none, though there are pairs, the lengths of
-- those of the candidates of ranks up to 3 tell why.
pub record IsLegReason (road : RoadMap) (layers : LayersValue) (layer : ℕ) (leg : LegReason) : Type
    0 where
  pub next : Next
  pub leads_on : LeadsOn layers.reference layer next
  pub class_is : leg.class ≡ class_limit layers.tolerances next
  pub from_is : leg.from ≡ least_admitted layers.tolerances next
  pub to_is : leg.to ≡ greatest_admitted layers.tolerances next
  pub admits_is : leg.admits ≡ count_by is_some (slice_index_or layers.lengths layer [])
  pub of_is : leg.of ≡ length (slice_index_or layers.candidates layer []) * length
      (slice_index_or layers.candidates (layer + 1) [])
  pub admitting : 0 < leg.admits → leg.pairs ≡ []
  pub pairs : leg.admits ≡ 0 → ArePairs road layers.tolerances next
      (take 3 (slice_index_or layers.candidates layer []))
      (take 3 (slice_index_or layers.candidates (layer + 1) [])) leg.pairs

-- all legs, in order
pub record AreLegReasons (road : RoadMap) (layers : LayersValue) (legs : List LegReason) : Type 0
  where
    pub count : length legs + 1 ≡ length layers.candidates
    pub each : (layer : ℕ) (leg : LegReason) → slice_get legs layer ≡ Some leg
        → IsLegReason road layers layer leg
