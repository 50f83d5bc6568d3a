use Rattle.olr_why.proofs.Common.{◌+◌, class_limit, IsPairAt}
use Rattle.olr_why.proofs.Lists.{AreSoFar}
use Rattle.olr_why.proofs.pairs.LegOnMap.pairs_under_limit.Given as goal

-- each pair so far has its length
abbrev pub invariant-loop-index : goal.invariant-loop-index
invariant-loop-index l =
    AreSoFar (IsPairAt l.self (class_limit l.self.tolerances l.self.next + 1) l.first l.fn.from)
    l.index l.pairs.items
