use Rattle.std.proofs.Common.{◌≤◌, ◌-◌, ◌<◌}
use Rattle.olr_why.proofs.crowding.surroundings_up_to.Given as goal

abbrev pub invariant-loop-reach : goal.invariant-loop-reach
invariant-loop-reach l = (1 ≤ l.reach) × (l.fn.start < l.reach)

abbrev pub decreases-loop-reach : goal.decreases-loop-reach
decreases-loop-reach l = l.fn.most - l.reach
