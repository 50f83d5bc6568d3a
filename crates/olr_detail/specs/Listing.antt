-- The candidates of the points of a reference, with what speaks for each of them.
use Rattle.std.specs.Prelude.{◌≡◌, ℕ, List, length, map, Some, slice_get}
use Rattle.olr_binary.specs.declared.reference.Reference.{Reference}
use Rattle.olr_road.specs.RoadMap.{RoadLine}
use Rattle.olr_candidates.specs.declared.candidate.Candidate.{Candidate}
use Rattle.olr_candidates.specs.declared.tolerances.Tolerances.{Tolerances}
use Rattle.olr_detail.specs.CandidateDetail.{IsDetailOf}
use Rattle.olr_detail.specs.declared.candidate_detail.CandidateDetail.{CandidateDetail}
use Rattle.olr_detail.specs.declared.listing.PointDetails.{PointDetails}

module _ (tolerances : Tolerances) (reference : Reference) (lines : List RoadLine) where
  -- what speaks for each of these candidates of the point of this index
  pub record AreDetailsAt (index : ℕ) (candidates : List Candidate)
      (details : List CandidateDetail) : Type 0 where
    pub count : length details ≡ length candidates
    pub each : (k : ℕ) (candidate : Candidate) (detail : CandidateDetail)
        → slice_get candidates k ≡ Some candidate → slice_get details k ≡ Some detail
        → IsDetailOf tolerances reference lines index candidate detail

  -- what speaks for the candidates of each point
  pub record AreListsInDetail (lists : List (List Candidate)) (details : List (List CandidateDetail))
      : Type 0 where
    pub count : length details ≡ length lists
    pub each : (index : ℕ) (list : List Candidate) (detail : List CandidateDetail)
        → slice_get lists index ≡ Some list → slice_get details index ≡ Some detail
        → AreDetailsAt index list detail

-- the candidates of each point
abbrev pub details_of : List PointDetails → List (List CandidateDetail)
details_of points = map (λ (point : PointDetails). point.candidates.items) points
