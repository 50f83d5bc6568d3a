use Rattle.olr_candidates.proofs.Common.{arith}
use Rattle.olr_candidates.proofs.line_candidate.candidate_within.Goals as goal

pub returns-in_err-projection : goal.returns-in_err-projection
returns-in_err-projection c = rw c.from_residual.ensures (λ candidate is.
    let far = c.in_err-projection.ensures.projection is.2.projection
    (is.0, is.1, is.2.is_projection) in omega arith)
