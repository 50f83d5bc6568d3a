use Rattle.olr_candidates.proofs.Common.{arith}
use Rattle.olr_candidates.proofs.LineCandidates.{sound_at, head_at}
use Rattle.olr_candidates.proofs.near.near_within.Goals as goal

pub returns-in_err-projection-clause-near : goal.returns-in_err-projection-clause-near
returns-in_err-projection-clause-near c = rw c.from_residual.ensures (λ near is.
    let far = c.in_err-projection.ensures.projection is.2.projection
    (is.0, is.1, is.2.is_projection) in omega arith)

pub near_by-requires-clause-class : goal.near_by-requires-clause-class
near_by-requires-clause-class c =
    let at = c.in_ok-projection.ensures.projection in
    let sound = sound_at _ _ c.line-line.ensures.sound.lines.each at.1 in
    rw (head_at c.args.map.now.lines c.args.rank at.0 c.line-line.result at.1
    c.line-line.ensures.line) sound.class
