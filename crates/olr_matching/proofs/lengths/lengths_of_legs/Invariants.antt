use Rattle.olr_matching.proofs.Common.{lengths_of, lists_of, [], IsTrue, AreLengthsOfLeg, AdmitPairs, AreSearchesOn}
use Rattle.olr_matching.proofs.Lists.{HoldsOfAll}
use Rattle.olr_matching.proofs.lengths.lengths_of_legs.Given as goal

-- each leg so far has its lengths, and admits a pair if it stops at one that doesn't; the searches
-- are of this map
abbrev pub invariant-loop-layer : goal.invariant-loop-layer
invariant-loop-layer l = record {
  legs : HoldsOfAll
      (λ layer lengths. AreLengthsOfLeg l.on.map.now l.on.tolerances l.on.reference.now
      (lists_of l.candidates) layer lengths) [] l.layer (lengths_of l.lengths.items);
  admit : IsTrue l.stops_early → AdmitPairs (lengths_of l.lengths.items);
  searches : AreSearchesOn l.on.map.now l.searches;
}
