use Rattle.olr_candidates.proofs.Common.{AreFound, HoldAllWithin, ℕ, List, ◌++◌}
use Rattle.olr_candidates.proofs.search.search_near.Given as goal

-- the candidates among the lines of the window so far
abbrev pub invariant-loop-rank : goal.invariant-loop-rank
invariant-loop-rank l = (seen : List ℕ)
    × HoldAllWithin l.fn.query l.fn.map.lines l.fn.query.tolerances.radius (seen ++ l.rank-iterator)
    × AreFound l.fn.query l.fn.map.lines seen l.list.items
