use Rattle.std.proofs.Common.{◌≡◌, ℕ, Some, length, slice_get}
use Rattle.olr_candidates.specs.declared.candidate.Candidate.{Candidate}
use Rattle.olr_detail.specs.CandidateDetail.{IsDetailOf}
use Rattle.olr_detail.specs.declared.candidate_detail.CandidateDetail.{CandidateDetail}
use Rattle.olr_detail.proofs.listing.details_at.Given as goal

abbrev pub invariant-loop-candidate : goal.invariant-loop-candidate
invariant-loop-candidate l = (length l.details.items ≡ l.candidate-index)
    × ((k : ℕ) (detail : CandidateDetail) → slice_get l.details.items k ≡ Some detail
    → (candidate : Candidate) → slice_get l.candidates k ≡ Some candidate
    → IsDetailOf l.on.tolerances l.on.reference.now l.on.map.now.lines l.index candidate detail)
