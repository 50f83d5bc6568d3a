use Rattle.olr_why.proofs.Common.{◌+◌, IsPairAt}
use Rattle.olr_why.proofs.Lists.{AreSoFar}
use Rattle.olr_why.proofs.pairs.LegOnMap.pairs_by.Given as goal

-- the class limit was looked at for each pair so far
abbrev pub invariant-loop-index : goal.invariant-loop-index
invariant-loop-index l = AreSoFar (IsPairAt l.self (l.class + 1) l.first l.reach.from) l.index
    l.looked.items
