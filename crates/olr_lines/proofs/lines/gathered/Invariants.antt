use Rattle.std.proofs.Common.{◌++◌}
use Rattle.olr_road.specs.Windows.{IsWindowOf}
use Rattle.olr_lines.proofs.lines.gathered.Given as goal

-- the ranks so far, with those that are left, are those of the window
abbrev pub invariant-loop-rank : goal.invariant-loop-rank
invariant-loop-rank l =
    IsWindowOf l.fn.map.lines l.fn.window (l.ranks.items ++ l.rank-iterator)
