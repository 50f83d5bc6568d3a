use Rattle.std.proofs.Common.{◌≡◌, ℕ, Some, length, slice_get}
use Rattle.olr_candidates.specs.declared.candidate.Candidate.{Candidate}
use Rattle.olr_detail.specs.CandidateDetail.{IsDetailOf}
use Rattle.olr_detail.specs.declared.candidate_detail.CandidateDetail.{CandidateDetail}
use Rattle.olr_detail.proofs.matching_detail.candidate_details.Given as goal

abbrev pub invariant-loop-index : goal.invariant-loop-index
invariant-loop-index l = (length l.details.items ≡ l.index)
    × ((k : ℕ) (detail : CandidateDetail) → slice_get l.details.items k ≡ Some detail
    → (candidate : Candidate) → slice_get l.candidates k ≡ Some candidate
    → IsDetailOf l.on.tolerances l.on.reference.now l.on.map.now.lines k candidate detail)
