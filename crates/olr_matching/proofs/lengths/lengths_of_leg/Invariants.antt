use Rattle.olr_matching.proofs.Common.{take, AreLengthsBetween, AreSearchesOn}
use Rattle.olr_matching.proofs.lengths.lengths_of_leg.Given as goal

-- the rows of the candidates so far are there, and the searches are of this map
abbrev pub invariant-loop-first : goal.invariant-loop-first
invariant-loop-first l = record {
  rows : AreLengthsBetween l.leg.map.now l.leg.tolerances l.leg.next
      (take l.first-index l.leg.firsts.now) l.leg.seconds.now l.lengths.items;
  searches : AreSearchesOn l.leg.map.now l.searches;
}
