use Rattle.olr_report.proofs.Common.{IsRouteOver, steps_of_legs, take}
use Rattle.olr_report.proofs.joining.join.Given as goal

abbrev pub invariant-loop-leg : goal.invariant-loop-leg
invariant-loop-leg l = IsRouteOver (steps_of_legs (take l.leg-index l.legs)) l.route.items
