use Rattle.olr_matching.proofs.Common.{◌≡◌, ◌++◌, ℕ, List, take, Option, AreLengthsTo}
use Rattle.olr_matching.proofs.lengths.push_row.Given as goal

-- the lengths to the candidates so far were added
abbrev pub invariant-loop-second : goal.invariant-loop-second
invariant-loop-second l = (row : List (Option ℕ))
    × (l.lengths.items ≡ l.initial.lengths.items ++ row)
    × AreLengthsTo l.leg.map.now l.leg.tolerances l.leg.next l.fn.from
    (take l.second-index l.leg.seconds.now) row
