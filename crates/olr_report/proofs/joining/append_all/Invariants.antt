use Rattle.olr_report.proofs.Common.{IsRouteOver, steps_of, ◌++◌, take}
use Rattle.olr_report.proofs.joining.append_all.Given as goal

abbrev pub invariant-loop-piece : goal.invariant-loop-piece
invariant-loop-piece l = IsRouteOver
    (steps_of l.fn.route.items ++ steps_of (take l.piece-index l.pieces)) l.route.items
