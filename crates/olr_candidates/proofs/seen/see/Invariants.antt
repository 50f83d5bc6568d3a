use Rattle.olr_candidates.proofs.Common.{AreSeenAmong, HoldAllWithin, ℕ, List, length, ◌++◌, ◌≤◌}
use Rattle.olr_candidates.proofs.seen.see.Given as goal

-- the lines near enough among those of the window so far
abbrev pub invariant-loop-rank : goal.invariant-loop-rank
invariant-loop-rank l = (ranks : List ℕ)
    × HoldAllWithin l.fn.query l.fn.map.lines l.fn.reach (ranks ++ l.rank-iterator)
    × AreSeenAmong l.fn.query l.fn.map.lines l.fn.reach ranks l.seen.items
    × (length l.seen.items ≤ l.fn.most)
