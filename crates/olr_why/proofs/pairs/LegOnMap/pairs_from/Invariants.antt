use Rattle.olr_why.proofs.Common.{ArePairsFrom}
use Rattle.olr_why.proofs.pairs.LegOnMap.pairs_from.Given as goal

-- the class limits so far were looked at
abbrev pub invariant-loop-class : goal.invariant-loop-class
invariant-loop-class l = ArePairsFrom l.self l.class l.first l.fn.from l.pairs.items
