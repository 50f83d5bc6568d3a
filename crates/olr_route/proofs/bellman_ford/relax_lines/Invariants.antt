use Rattle.olr_route.proofs.Common.{IsLowered, IsOffered, table_in, IsKnownWithin, start_of, ℕ, ◌<◌}
use Rattle.olr_route.proofs.bellman_ford.relax_lines.Given as goal

-- the lines so far were relaxed
abbrev pub invariant-loop-line : goal.invariant-loop-line
invariant-loop-line l = record {
  lowered : IsLowered l.search l.found l.fn.starts l.starts;
  offered : (line bound : ℕ) → line < l.line
      → IsKnownWithin (table_in l.search.map.now l.fn.starts line) bound
      → IsOffered l.search (start_of line) bound l.starts;
}
