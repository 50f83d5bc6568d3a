use Rattle.std.proofs.Common.{◌≡◌, ◌+◌, ◌-◌, ◌≤◌, ◌^◌, All, map, take}
use Rattle.olr_confidence.proofs.probable.places_below.Given as goal

abbrev pub invariant-loop-lost : goal.invariant-loop-lost
invariant-loop-lost l =
    (l.below.items ≡ map (λ lost. (lost - l.fn.least) + l.fn.ahead) (take l.lost-index l.losses))
    × All (λ one. one ≤ 2 ^ 63) l.below.items
