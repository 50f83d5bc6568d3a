use Rattle.std.proofs.Common.{◌≡◌, ◌*◌, ◌≤◌, take, sum_by}
use Rattle.olr_detail.proofs.cost.sum_of_legs.Given as goal

abbrev pub invariant-loop-leg : goal.invariant-loop-leg
invariant-loop-leg l = (l.sum ≡ sum_by (λ leg. leg.penalty) (take l.leg-index l.legs))
    × (l.sum ≤ 255 * l.leg-index)
