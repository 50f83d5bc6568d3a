use Rattle.olr_candidates.proofs.Common.{AreFound, ranks_of, take}
use Rattle.olr_candidates.proofs.seen.search_among.Given as goal

-- the candidates among the lines so far
abbrev pub invariant-loop-line : goal.invariant-loop-line
invariant-loop-line l = AreFound l.fn.query l.fn.map.lines (take l.line-index (ranks_of l.fn.seen))
    l.list.items
