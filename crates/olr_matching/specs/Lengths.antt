-- The lengths of a leg between its candidates, in decimetres: for each pair the length with which
-- the leg admits it, or none where it doesn't.
use Rattle.std.specs.Prelude.{◌≡◌, ℕ, ◌+◌, ◌*◌, ◌<◌, List, [], length, Option, None, Some, slice_get, slice_index_or, All}
use Rattle.olr_matching.specs.Common.{Candidate, Next, Place, Reference, RoadMap, Tolerances}
use Rattle.olr_matching.specs.Layers.{LeadsOn}
use Rattle.olr_matching.specs.Leg.{IsAdmittedLength}

module _ (road : RoadMap) (tolerances : Tolerances) (next : Next) where
  -- from a place to each of these candidates, in their order
  pub record AreLengthsTo (from : Place) (seconds : List Candidate)
      (lengths : List (Option ℕ)) : Type 0 where
    pub count : length lengths ≡ length seconds
    pub each : (second : ℕ) (to : Candidate) → slice_get seconds second ≡ Some to
        → IsAdmittedLength road tolerances next from to.place (slice_index_or lengths second None)

  -- from each of the first candidates to each of the second ones, by the first and then by the
  -- second
  pub record AreLengthsBetween (firsts seconds : List Candidate) (lengths : List (Option ℕ)) : Type
      0 where
    pub pairs : length lengths ≡ length firsts * length seconds
    pub each : (first second : ℕ) (from to : Candidate) → slice_get firsts first ≡ Some from
        → slice_get seconds second ≡ Some to
        → IsAdmittedLength road tolerances next from.place to.place
        (slice_index_or lengths (first * length seconds + second) None)

-- the lengths of the leg from a point of a reference to the next one, between the candidates of
-- both
abbrev pub AreLengthsOfLeg : RoadMap → Tolerances → Reference → List (List Candidate) → ℕ
    → List (Option ℕ) → Type 0
AreLengthsOfLeg road tolerances reference candidates layer lengths = (next : Next)
    → LeadsOn reference layer next
    → AreLengthsBetween road tolerances next (slice_index_or candidates layer [])
    (slice_index_or candidates (layer + 1) []) lengths

-- the lengths of all legs
pub record AreLengthsOfLegs (road : RoadMap) (tolerances : Tolerances) (reference : Reference)
    (candidates : List (List Candidate))
    (lengths : List (List (Option ℕ))) : Type 0 where
  pub count : length lengths + 1 ≡ length candidates
  pub each : (layer : ℕ) → layer < length lengths
      → AreLengthsOfLeg road tolerances reference candidates layer (slice_index_or lengths layer [])

-- some leg admits no pair of the candidates of its points: none of them has a length
pub record HasLegWithoutPair (road : RoadMap) (tolerances : Tolerances) (reference : Reference)
    (candidates : List (List Candidate)) : Type 0 where
  pub layer : ℕ
  pub within : layer + 1 < length candidates
  pub lengths : List (Option ℕ)
  pub are : AreLengthsOfLeg road tolerances reference candidates layer lengths
  pub none : All (λ (length : Option ℕ). length ≡ None) lengths

-- each of the legs with these lengths admits a pair of candidates
abbrev pub AdmitPairs : List (List (Option ℕ)) → Type 0
AdmitPairs lengths = All (λ (leg : List (Option ℕ)). All (λ (length : Option ℕ). length ≡ None) leg
    → ⊥) lengths
