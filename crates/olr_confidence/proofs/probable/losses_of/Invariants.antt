use Rattle.std.proofs.Common.{◌≡◌, ◌≤◌, ◌^◌, All, map, take}
use Rattle.olr_confidence.specs.Worths.{least_cost, lost_by}
use Rattle.olr_confidence.proofs.probable.losses_of.Given as goal

abbrev pub invariant-loop-place : goal.invariant-loop-place
invariant-loop-place l =
    (l.losses.items ≡ map (lost_by l.fn.weights (least_cost l.places)) (take l.place-index l.places))
    × All (λ lost. lost ≤ 2 ^ 61) l.losses.items
