use Rattle.olr_index.proofs.Common.{take, NoneMeets}
use Rattle.olr_index.proofs.window.first_that_meets.Given as goal

-- none so far meets the window
abbrev pub invariant-loop-index : goal.invariant-loop-index
invariant-loop-index l = NoneMeets l.window (take l.index l.bounding_boxes)
