-- What would help a reference that has no matching: a change of one tolerance, all else being the
-- same, or a map without bans. A value that is spoken of is always within its range, because every
-- value of `Tolerances` is.
use Rattle.std.specs.Prelude.{◌≡◌, ◌≢◌, ℕ, ◌<◌, List, [], ◌∷◌, ◌++◌, Option, Some, MatchOption}
use Rattle.std.specs.Option.{option_to_list}
use Rattle.olr_why.specs.Common.{KeyValue, Tolerance, Reference, RoadMap, Tolerances}
use Rattle.olr_candidates.specs.declared.tolerances.Tolerance.TheVariants.{Radius, Bearing, Class, Lowest, Percent, Slack}
pub use Rattle.olr_candidates.specs.Values.{IsChanged, value_of}
use Rattle.olr_why.specs.Chain.{HasMatching, IsFirstMatching, IsUncrowded}
use Rattle.olr_why.specs.declared.remedy.Change.TheVariants.{Set, WithoutBans}
use Rattle.olr_why.specs.declared.remedy.Remedy.{Remedy}
use Rattle.olr_why.specs.declared.verdict.Verdict.{Verdict}
use Rattle.olr_why.specs.declared.verdict.Verdict.TheVariants.{Chain, Crowded, Leg, Match, Point}

-- ---- a map without bans

-- the same map with no turn banned
abbrev pub without_bans : RoadMap → RoadMap
without_bans road = record road { bans = [] }

-- a map that has bans, and the same map without them
pub record IsUnbanned (road other : RoadMap) : Type 0 where
  pub has_bans : road.bans ≢ []
  pub is : other ≡ without_bans road

-- the map without bans, where the map has bans
abbrev pub AreUnbanned : RoadMap → Option RoadMap → Type 0
AreUnbanned road unbanned = MatchOption unbanned (road.bans ≡ []) (IsUnbanned road)

-- ---- the order of remedies

-- the tolerances of which a greater value may help, the most trusted one first
abbrev pub by_trust : List Tolerance
by_trust = Lowest ∷ Bearing ∷ Radius ∷ Slack ∷ Percent ∷ Class ∷ []

-- those of which a lesser value may help
abbrev pub narrowed : List Tolerance
narrowed = Radius ∷ Bearing ∷ Class ∷ []

-- the remedies of these names, one after the other, of each name the one that there is, if any
unfoldable pub AreOfNames : (Tolerance → Option Remedy → Type 0) → List Tolerance → List Remedy → Type 0
AreOfNames IsOf [] remedies = remedies ≡ []
AreOfNames IsOf (name ∷ names) remedies = (first : Option Remedy) × (rest : List Remedy)
    × IsOf name first × AreOfNames IsOf names rest × (remedies ≡ option_to_list first ++ rest)

module _ (road : RoadMap) (given : Tolerances) (reference : Reference) where
  -- ---- where a reference has no matching, and no point has too many candidates

  -- with this value of a tolerance no point has more than 64 candidates, and there is a matching
  pub record IsEnough (name : Tolerance) (value : ℕ) : Type 0 where
    pub changed : Tolerances
    pub is_changed : IsChanged name value given changed
    pub uncrowded : IsUncrowded road changed reference
    pub matching : HasMatching road changed reference

  -- the least value above the given one that is enough, and the first matching that it gives
  pub record IsLeastEnough (name : Tolerance) (value : ℕ) (key : KeyValue) : Type 0 where
    pub above : value_of given name < value
    pub enough : IsEnough name value
    pub least : (lesser : ℕ) → value_of given name < lesser → lesser < value → IsEnough name lesser
        → ⊥
    pub first : IsFirstMatching road enough.changed reference key

  -- the greater value of a tolerance that helps, if one does
  abbrev pub IsWider : Tolerance → Option Remedy → Type 0
  IsWider name answer = MatchOption answer
      ((value : ℕ) → value_of given name < value → IsEnough name value → ⊥)
      (λ remedy. (value : ℕ) × (key : KeyValue) × (remedy.change ≡ Set name value)
      × (remedy.matching ≡ Some key) × IsLeastEnough name value key)

  -- a map without bans, where the map has a ban, if that helps
  abbrev pub IsRemedyWithoutBans : Option Remedy → Type 0
  IsRemedyWithoutBans answer = MatchOption answer
      (road.bans ≢ [] → HasMatching (without_bans road) given reference → ⊥)
      (λ remedy. (key : KeyValue) × (remedy.change ≡ WithoutBans) × (remedy.matching ≡ Some key)
      × (road.bans ≢ [])
      × IsFirstMatching (without_bans road) given reference key)

  -- ---- where a point has too many candidates

  -- with this value of a tolerance no point has more than 64 candidates
  pub record IsUncrowdedWith (name : Tolerance) (value : ℕ) : Type 0 where
    pub changed : Tolerances
    pub is_changed : IsChanged name value given changed
    pub uncrowded : IsUncrowded road changed reference

  -- the greatest value below the given one with which that is so, and the first matching that it
  -- gives, if it gives one
  pub record IsGreatestUncrowded (name : Tolerance) (value : ℕ) (matching : Option KeyValue) : Type 0
    where
      pub below : value < value_of given name
      pub enough : IsUncrowdedWith name value
      pub greatest : (greater : ℕ) → value < greater → greater < value_of given name
          → IsUncrowdedWith name greater → ⊥
      pub first : MatchOption matching (HasMatching road enough.changed reference → ⊥)
          (IsFirstMatching road enough.changed reference)

  -- the lesser value of a tolerance that helps, if one does
  abbrev pub IsNarrower : Tolerance → Option Remedy → Type 0
  IsNarrower name answer = MatchOption answer
      ((value : ℕ) → value < value_of given name → IsUncrowdedWith name value → ⊥)
      (λ remedy. (value : ℕ) × (remedy.change ≡ Set name value)
      × IsGreatestUncrowded name value remedy.matching)

  -- ---- all of them

  -- what helps where no point has too many candidates: tolerances in the order of trust, and then
  -- a map without bans
  pub record AreWider (remedies : List Remedy) : Type 0 where
    pub of_tolerances : List Remedy
    pub of_bans : Option Remedy
    pub tolerances : AreOfNames IsWider by_trust of_tolerances
    pub bans : IsRemedyWithoutBans of_bans
    pub list_is : remedies ≡ of_tolerances ++ option_to_list of_bans

  -- what helps where a point has too many candidates
  abbrev pub AreNarrower : List Remedy → Type 0
  AreNarrower = AreOfNames IsNarrower narrowed

  -- what helps, by the verdict
  abbrev pub AreRemedies : Verdict → List Remedy → Type 0
  AreRemedies (Crowded number) remedies = AreNarrower remedies
  AreRemedies (Point number) remedies = AreWider remedies
  AreRemedies (Leg number) remedies = AreWider remedies
  AreRemedies (Chain number) remedies = AreWider remedies
  AreRemedies Match remedies = remedies ≡ []
