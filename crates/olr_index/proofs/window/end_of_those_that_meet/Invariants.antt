use Rattle.olr_index.proofs.Common.{◌≤◌, drop, length, NoneMeets}
use Rattle.olr_index.proofs.window.end_of_those_that_meet.Given as goal

-- none from the place so far on meets the window
abbrev pub invariant-loop-end : goal.invariant-loop-end
invariant-loop-end l = (l.end ≤ length l.bounding_boxes) × NoneMeets l.window (drop l.end l.bounding_boxes)

abbrev pub decreases-loop-end : goal.decreases-loop-end
decreases-loop-end l = l.end
