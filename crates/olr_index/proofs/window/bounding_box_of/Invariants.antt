use Rattle.olr_base.specs.declared.degrees.Degrees.{Degrees}
use Rattle.olr_index.proofs.Spans.{IsSpanSoFar}
use Rattle.olr_index.proofs.window.bounding_box_of.Given as goal

abbrev pub invariant-loop-point : goal.invariant-loop-point
invariant-loop-point l = record {
  lats : IsSpanSoFar (λ (point : Degrees). point.lat) l.points l.point-index l.bounding_box.south
      l.bounding_box.north;
  lons : IsSpanSoFar (λ (point : Degrees). point.lon) l.points l.point-index l.bounding_box.west
      l.bounding_box.east;
}
