use Rattle.olr_shape.proofs.Found.{IsSought}
use Rattle.olr_shape.proofs.position.spot_at.Given as goal

-- no segment so far reaches the position
abbrev pub invariant-loop-segment : goal.invariant-loop-segment
invariant-loop-segment l = IsSought l.line.points l.line.length l.at l.segment
