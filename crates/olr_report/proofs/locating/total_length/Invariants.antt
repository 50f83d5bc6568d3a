use Rattle.olr_report.proofs.Common.{◌≡◌, ◌*◌, ◌^◌, ◌≤◌, length, take, steps_of_legs}
use Rattle.olr_report.proofs.locating.total_length.Given as goal

-- the steps of the legs so far, each below 2^20
abbrev pub invariant-loop-leg : goal.invariant-loop-leg
invariant-loop-leg l = (l.total ≡ length (steps_of_legs (take l.leg-index l.legs)))
    × (l.total ≤ l.leg-index * 2 ^ 20)
