-- The candidates of each point of a reference. Points are counted from 0, and the first one is the
-- origin of the plane.
use Rattle.std.specs.Prelude.{◌≡◌, ⊤, map, Bool, ℕ, ◌+◌, ◌<◌, ◌≤◌, ◌==◌, List, length, Some, slice_get}
use Rattle.arrayvec.specs.ArrayVec.{ArrayVec}
use Rattle.olr_candidates.specs.Common.{Coordinates, coordinates_of, Point, Reference, points_of, RoadLine}
use Rattle.olr_candidates.specs.declared.candidate.Candidate.{Candidate}
use Rattle.olr_candidates.specs.declared.fault.LayersFault.{LayersFault}
use Rattle.olr_candidates.specs.declared.fault.LayersFault.TheVariants.{TooManyCandidates, NoMemory}
use Rattle.olr_candidates.specs.declared.rejection.Rejection.{Rejection}
use Rattle.olr_candidates.specs.declared.tolerances.Tolerances.{Tolerances}
use Rattle.olr_candidates.specs.Candidates.{IsCandidateAt, IsRejectionAt, AreCandidates, AreTooMany}

-- This holds of a point of a reference: of the origin of the plane, of the point, and of whether it
-- is the last one.
pub record HoldsAt (reference : Reference) (index : ℕ)
    (Holds : Coordinates → Point → Bool → Type 0) : Type 0 where
  pub first : Point
  pub point : Point
  pub first_is : slice_get (points_of reference) 0 ≡ Some first
  pub point_is : slice_get (points_of reference) index ≡ Some point
  pub just : Holds (coordinates_of first.at) point (index + 1 == length (points_of reference))

module _ (tolerances : Tolerances) (reference : Reference) (lines : List RoadLine) where
  -- the line of a rank is this candidate of a point
  abbrev pub IsCandidateOf : ℕ → ℕ → Candidate → Type 0
  IsCandidateOf index rank candidate = HoldsAt reference index
      (λ origin point is_last. IsCandidateAt tolerances origin point is_last lines rank candidate)

  -- the line of a rank is no candidate of a point for this reason
  abbrev pub IsRejectionOf : ℕ → ℕ → Rejection → Type 0
  IsRejectionOf index rank rejection = HoldsAt reference index
      (λ origin point is_last. IsRejectionAt tolerances origin point is_last lines rank rejection)

  -- exactly the candidates of a point, in their order
  abbrev pub AreCandidatesOf : ℕ → List Candidate → Type 0
  AreCandidatesOf index candidates = HoldsAt reference index
      (λ origin point is_last. AreCandidates tolerances origin point is_last lines candidates)

  -- a point has more than 64
  abbrev pub HasTooMany : ℕ → Type 0
  HasTooMany index = HoldsAt reference index
      (λ origin point is_last. AreTooMany tolerances origin point is_last lines)

  -- exactly the candidates of a point, of which there are at most 64
  abbrev pub IsListOf : ℕ → List Candidate → Type 0
  IsListOf index candidates = AreCandidatesOf index candidates × (length candidates ≤ 64)

  -- the candidates of each of the first points, point by point
  abbrev pub AreFirstLists : List (List Candidate) → Type 0
  AreFirstLists lists = (index : ℕ) (list : List Candidate) → slice_get lists index ≡ Some list
      → IsListOf index list

  -- the candidates of every point, point by point
  pub record AreLists (lists : List (List Candidate)) : Type 0 where
    pub each : AreFirstLists lists
    pub all : length lists ≡ length (points_of reference)

  -- the first point that has more than 64
  pub record IsFirstTooMany (index : ℕ) : Type 0 where
    pub too_many : HasTooMany index
    pub before : (earlier : ℕ) → earlier < index → (list : List Candidate) × IsListOf earlier list

  -- Why the lists can't be given: `NoMemory`, of which nothing is stated, so it may come at any
  -- time; or a point, the first such, has more than 64 candidates. Its number counts from 1.
  abbrev pub IsLayersFault : LayersFault → Type 0
  IsLayersFault NoMemory = ⊤
  IsLayersFault (TooManyCandidates number) = (index : ℕ) × IsFirstTooMany index
      × (number ≡ index + 1)

-- what lists of bounded length hold
abbrev pub lists_of : List (ArrayVec Candidate) → List (List Candidate)
lists_of lists = map (λ (list : ArrayVec Candidate). list.items) lists
