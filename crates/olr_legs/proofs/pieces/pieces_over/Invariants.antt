use Rattle.std.proofs.Common.{◌≡◌, ◌++◌, ◌<◌, drop, length}
use Rattle.olr_route.specs.Walk.{pieces_of}
use Rattle.olr_legs.proofs.pieces.pieces_over.Given as goal

-- the pieces so far, with those of the walk that is left, are all of them
abbrev pub invariant-loop-next : goal.invariant-loop-next
invariant-loop-next l = record {
  on_map : l.begin.line < length l.map.lines;
  so_far : l.pieces.items ++ pieces_of l.map l.begin l.to (drop l.next-index l.behind)
      ≡ pieces_of l.map l.fn.from l.to l.behind;
}
