use Rattle.olr_road.proofs.Common.{HasBoundingBox, ◌≡◌, take, AllZip, bounding_boxes_of, AreInOrder}
use Rattle.olr_road.proofs.placed.placed_lines.Given as goal

-- the lines of the entries so far
abbrev pub invariant-loop-entry : goal.invariant-loop-entry
invariant-loop-entry l = record {
  rank : l.rank ≡ l.entry-index;
  in_order : AreInOrder l.lines.items;
  bounding_boxes : AllZip (HasBoundingBox l.points) (take l.entry-index l.entries)
      (bounding_boxes_of l.lines.items);
}
