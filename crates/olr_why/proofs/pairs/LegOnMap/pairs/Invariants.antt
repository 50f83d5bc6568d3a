use Rattle.olr_why.proofs.Common.{take, ArePairs}
use Rattle.olr_why.proofs.pairs.LegOnMap.pairs.Given as goal

-- the pairs of the first candidates so far
abbrev pub invariant-loop-index : goal.invariant-loop-index
invariant-loop-index l = ArePairs l.self.map.now l.self.tolerances l.self.next
    (take l.index l.self.firsts.now) l.self.seconds.now l.pairs.items
