use Rattle.olr_route.proofs.Common.{IsLowered, table_in, IsKnownWithin, IsAllowed, ℕ, ◌<◌, get_or}
use Rattle.olr_route.proofs.bellman_ford.relax.Given as goal

-- the length was offered to the lines so far
abbrev pub invariant-loop-next : goal.invariant-loop-next
invariant-loop-next l = record {
  lowered : IsLowered l.search l.kept l.fn.starts l.starts;
  known : (i d : ℕ) → i < l.next-index
      → IsAllowed l.search.map.now l.place.line (get_or l.ahead i d)
      → IsKnownWithin (table_in l.search.map.now l.starts (get_or l.ahead i d)) l.at_end;
}
