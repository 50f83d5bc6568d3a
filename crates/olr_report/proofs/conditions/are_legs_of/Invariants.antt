use Rattle.olr_report.proofs.Common.{take, All, IsMeasured}
use Rattle.olr_report.proofs.conditions.are_legs_of.Given as goal

abbrev pub invariant-loop-leg : goal.invariant-loop-leg
invariant-loop-leg l = All IsMeasured (take l.leg-index l.legs)
