-- Tuples of candidates of neighbouring points, of which the leg between each two neighbours admits
-- the two. A candidate is named by the place where it lies. Points are counted from 0.
use Rattle.std.specs.Prelude.{◌≡◌, ℕ, ◌+◌, ◌<◌, ⊤, List, [], ◌∷◌, length, Some, slice_get}
use Rattle.olr_why.specs.Common.{AreAnswers, Candidate, KeyValue, Next, Place, points_of, Reference, RoadMap, Tolerances}
use Rattle.olr_candidates.specs.Points.{HasTooMany, IsCandidateOf}
use Rattle.olr_matching.specs.Layers.{AreLayersOn, LayersValue, LeadsOn}
use Rattle.olr_matching.specs.Leg.{IsAdmitted}

module _ (road : RoadMap) (tolerances : Tolerances) (reference : Reference) where
  -- a candidate of a point lies at this place
  pub record IsCandidatePlace (index : ℕ) (place : Place) : Type 0 where
    pub candidate : Candidate
    pub is : IsCandidateOf tolerances reference road.lines index place.line candidate
    pub place_is : candidate.place ≡ place

  -- the leg from a point to the next one admits two places
  pub record AdmitsPlaces (index : ℕ) (from to : Place) : Type 0 where
    pub next : Next
    pub leads_on : LeadsOn reference index next
    pub length : ℕ
    pub admitted : IsAdmitted road tolerances next from to length

  -- candidates of the points behind a point, one of each, each of which is admitted with the one
  -- before it, the first with `from`
  abbrev pub AreAdmittedBehind : ℕ → Place → List Place → Type 0
  AreAdmittedBehind index from [] = ⊤
  AreAdmittedBehind index from (to ∷ rest) =
      IsCandidatePlace (index + 1) to × AdmitsPlaces index from to
      × AreAdmittedBehind (index + 1) to rest

  -- candidates of the first points of the reference, one of each, each two neighbours admitted by
  -- their leg
  abbrev pub AreAdmitted : List Place → Type 0
  AreAdmitted [] = ⊤
  AreAdmitted (place ∷ rest) = IsCandidatePlace 0 place × AreAdmittedBehind 0 place rest

  -- there is such a tuple of candidates of so many points
  pub record HasTuple (count : ℕ) : Type 0 where
    pub places : List Place
    pub count_is : length places ≡ count
    pub admitted : AreAdmitted places

  -- there is one of all points: a matching
  abbrev pub HasMatching : Type 0
  HasMatching = HasTuple (length (points_of reference))

  -- no point has more than 64 candidates
  abbrev pub IsUncrowded : Type 0
  IsUncrowded = (index : ℕ) → index < length (points_of reference)
      → HasTooMany tolerances reference road.lines index → ⊥

  -- the key of the first matching; there is one only where no point has more than 64 candidates
  pub record IsFirstMatching (key : KeyValue) : Type 0 where
    pub layers : LayersValue
    pub on : AreLayersOn road layers
    pub reference_is : layers.reference ≡ reference
    pub tolerances_is : layers.tolerances ≡ tolerances
    pub answers : List KeyValue
    pub are : AreAnswers layers.penalties answers
    pub first : slice_get answers 0 ≡ Some key
