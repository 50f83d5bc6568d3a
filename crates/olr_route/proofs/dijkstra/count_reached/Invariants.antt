use Rattle.olr_route.proofs.Common.{AreReachedFirst, table_in, ◌≤◌, length}
use Rattle.olr_route.proofs.dijkstra.count_reached.Given as goal

-- those so far
abbrev pub invariant-loop-index : goal.invariant-loop-index
invariant-loop-index l =
    record {
      reached : AreReachedFirst (table_in l.map l.starts) l.lines l.index;
      at_most : l.index
          ≤ length l.lines;
    }
