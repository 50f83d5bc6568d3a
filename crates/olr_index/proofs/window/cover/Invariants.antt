use Rattle.olr_index.proofs.Common.{take, All, Covers}
use Rattle.olr_index.proofs.window.cover.Given as goal

-- the bounding boxes of the lines so far lie within
abbrev pub invariant-loop-line : goal.invariant-loop-line
invariant-loop-line l = All (λ line. Covers l.bounding_box line.bounding_box) (take l.line-index l.lines)
