use Rattle.olr_index.proofs.Common.{◌≡◌, length, ranks_in}
use Rattle.olr_index.proofs.window.first_in.Given as goal

-- only lines that don't meet the window were passed over
abbrev pub invariant-loop-line : goal.invariant-loop-line
invariant-loop-line l = ranks_in l.window l.left ≡ ranks_in l.window l.fn.lines

abbrev pub decreases-loop-line : goal.decreases-loop-line
decreases-loop-line l = length l.left
