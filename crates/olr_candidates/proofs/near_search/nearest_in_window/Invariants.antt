use Rattle.olr_candidates.proofs.Common.{ℕ, List, ◌++◌, AreNearestAmong, HoldAllWithin}
use Rattle.olr_candidates.proofs.near_search.nearest_in_window.Given as goal

-- the nearest among the lines of the window so far
abbrev pub invariant-loop-rank : goal.invariant-loop-rank
invariant-loop-rank l = (seen : List ℕ)
    × HoldAllWithin l.fn.query l.fn.map.lines l.fn.radius (seen ++ l.rank-iterator)
    × AreNearestAmong l.fn.query l.fn.map.lines seen l.fn.count l.nearest.items
