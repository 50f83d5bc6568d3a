use Rattle.olr_candidates.proofs.Common.{ℕ, List, AreNearestAmong}
use Rattle.olr_candidates.proofs.NearestLines.{AreFirstRanks}
use Rattle.olr_candidates.proofs.near_search.nearest_of_all.Given as goal

-- the nearest among the lines so far
abbrev pub invariant-loop-rank : goal.invariant-loop-rank
invariant-loop-rank l = (seen : List ℕ) × AreFirstRanks l.rank seen
    × AreNearestAmong l.fn.query l.fn.map.lines seen l.fn.count l.nearest.items
