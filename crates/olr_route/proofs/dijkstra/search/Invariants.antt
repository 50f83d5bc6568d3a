use Rattle.olr_route.proofs.Common.{AreNodes, AreReachedFirst, table_in, ◌+◌, ◌≤◌, length, still_to_come}
use Rattle.olr_route.proofs.Underway.{IsUnderway}
use Rattle.olr_route.proofs.dijkstra.search.Given as goal

-- what is reached has its least length, and no arrival to come is nearer than the last one
abbrev pub invariant-loop-arrival : goal.invariant-loop-arrival
invariant-loop-arrival l = record {
  underway : IsUnderway l.search l.longest (table_in l.search.map.now l.state.starts) l.state.queue;
  nodes : AreNodes l.search.map.now l.state;
  reached : AreReachedFirst (table_in l.search.map.now l.state.starts) l.targets l.count;
  at_most : l.count ≤ length l.targets;
}

abbrev pub decreases-loop-arrival : goal.decreases-loop-arrival
decreases-loop-arrival l = length l.state.queue + still_to_come l.search.map.now l.state
