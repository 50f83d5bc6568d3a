-- The pairs of a leg, while class limits are looked at one after another. Lengths are in
-- decimetres, ranks are counted from 1.
use Rattle.std.specs.Prelude.{◌≡◌, ℕ, ◌+◌, ◌≤◌, ◌⊎◌, List, length, Some, IsSome, slice_get, All}
use Rattle.olr_road.specs.Place.{IsDeparture, IsPlace}
use Rattle.olr_why.specs.Common.{Candidate, Place}
use Rattle.olr_why.specs.Legs.{IsPairLength, IsUpTo}
use Rattle.olr_why.specs.declared.pair.PairLength.{PairLength}
use Rattle.olr_why.specs.declared.pairs.LegOnMap.{LegOnMap}

-- No other class limit is looked at for a pair: its length is within the leg's interval as it is
-- widened, or below it; or another class limit gave a lesser one.
abbrev pub IsAnswered : ℕ → PairLength → Type 0
IsAnswered greatest pair = IsUpTo pair.length greatest ⊎ IsSome pair.better

module _ (leg : LegOnMap) where
  -- its candidates are on its map, a vehicle can drive on from the first ones, and there are at
  -- most three on each side
  pub record EndsAreOnMap : Type 0 where
    pub departures : All (λ (first : Candidate). IsDeparture leg.map.now first.place) leg.firsts.now
    pub places : All (λ (second : Candidate). IsPlace leg.map.now second.place) leg.seconds.now
    pub firsts_at_most : length leg.firsts.now ≤ 3
    pub seconds_at_most : length leg.seconds.now ≤ 3

  -- a pair of candidates of these ranks and places, where the class limits below `end` were looked
  -- at
  abbrev pub IsPair : ℕ → ℕ → ℕ → Place → Place → PairLength → Type 0
  IsPair = IsPairLength leg.map.now leg.tolerances leg.next

  -- the pair of a first candidate, of this rank, and the second one of this index, from 0
  abbrev pub IsPairAt : ℕ → ℕ → Place → ℕ → PairLength → Type 0
  IsPairAt end first from index pair = (to : Candidate) → slice_get leg.seconds.now index ≡ Some to
      → IsPair end first (index + 1) from to.place pair

  -- the pairs of a first candidate and each of the second ones, in order
  pub record ArePairsFrom (end first : ℕ) (from : Place) (pairs : List PairLength) : Type 0 where
    pub count : length pairs ≡ length leg.seconds.now
    pub each : (index : ℕ) (pair : PairLength) → slice_get pairs index ≡ Some pair
        → IsPairAt end first from index pair
