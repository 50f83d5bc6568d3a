use Rattle.olr_keys.proofs.Common.{◌≡◌, ◌+◌, ◌*◌, ◌≤◌, take, sum_by, greatest, greatest_leg, max_step}
use Rattle.olr_keys.proofs.width.width.Given as goal

abbrev pub invariant-loop-layer : goal.invariant-loop-layer
invariant-loop-layer l =
    (l.sum ≡ sum_by greatest (take l.layer l.table.candidates)
    + sum_by greatest_leg (take l.layer l.table.legs) + 1) × (l.sum ≤ max_step * l.layer + 1)
