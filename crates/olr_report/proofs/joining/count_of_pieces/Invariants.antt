use Rattle.std.proofs.Common.{◌≡◌, ◌^◌, ◌-◌, length, min, take, sum_by}
use Rattle.olr_report.proofs.joining.count_of_pieces.Given as goal

-- the pieces of the legs so far
abbrev pub invariant-loop-leg : goal.invariant-loop-leg
invariant-loop-leg l = l.count ≡ min (sum_by (λ leg. length leg.route) (take l.leg-index l.legs))
    (2 ^ 64 - 1)
