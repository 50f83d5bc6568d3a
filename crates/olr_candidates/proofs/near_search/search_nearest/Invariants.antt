use Rattle.std.proofs.Common.{◌≤◌, ◌-◌}
use Rattle.olr_candidates.proofs.near_search.search_nearest.Given as goal

abbrev pub invariant-loop-radius : goal.invariant-loop-radius
invariant-loop-radius l = 1 ≤ l.radius

abbrev pub decreases-loop-radius : goal.decreases-loop-radius
decreases-loop-radius l = 2000000 - l.radius
