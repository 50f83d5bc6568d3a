use Rattle.olr_matching.proofs.Common.{lists_of, penalties_of, ◌≡◌, map, take}
use Rattle.olr_matching.proofs.penalties.penalties_of_points.Given as goal

-- the penalties of the points so far
abbrev pub invariant-loop-list : goal.invariant-loop-list
invariant-loop-list l = map (λ layer. layer.items) l.layers.items
    ≡ map penalties_of (lists_of (take l.list-index l.candidates))
