use Rattle.olr_metric.proofs.Common.{◌≡◌, ◌<◌, ◌^◌, distance, IsInPlane}
use Rattle.olr_metric.proofs.Nearests.{IsFoot, IsNearestOf}
use Rattle.olr_metric.proofs.polyline.nearest_segment.Given as goal

-- the nearest so far
abbrev pub invariant-loop-segment : goal.invariant-loop-segment
invariant-loop-segment l = record {
  nearest : IsNearestOf l.fn.spots l.fn.p l.segment l.nearest l.least;
  foot : IsFoot l.fn.spots l.fn.p l.nearest l.foot;
  distance : l.least ≡ distance l.fn.p l.foot;
  at_most : l.least < 2 ^ 35;
  in_plane : IsInPlane l.foot;
}
