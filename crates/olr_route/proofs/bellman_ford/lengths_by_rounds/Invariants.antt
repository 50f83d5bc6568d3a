use Rattle.olr_route.proofs.Common.{AreSound, IsOffered}
use Rattle.olr_route.specs.BellmanFord.{sum_of}
use Rattle.olr_route.proofs.bellman_ford.lengths_by_rounds.Given as goal

abbrev pub invariant-loop-starts : goal.invariant-loop-starts
invariant-loop-starts l = record {
  sound : AreSound l.search l.starts;
  first : IsOffered l.search l.search.from 0 l.starts;
}

abbrev pub decreases-loop-starts : goal.decreases-loop-starts
decreases-loop-starts l = sum_of l.search l.starts
