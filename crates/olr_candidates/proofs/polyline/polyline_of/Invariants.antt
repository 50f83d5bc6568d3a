use Rattle.olr_candidates.proofs.Common.{coordinates_of, spot_of, IsInPlane, ◌≡◌, length, map, take, All}
use Rattle.olr_candidates.proofs.polyline.polyline_of.Given as goal

-- the spots of the points so far
abbrev pub invariant-loop-point : goal.invariant-loop-point
invariant-loop-point l = record {
  spots : l.polyline.items ≡ map (λ point. spot_of (coordinates_of l.fn.plane)
      (coordinates_of point)) (take l.point-index l.points);
  in_plane : All IsInPlane l.polyline.items;
  count : length l.polyline.items ≡ l.point-index;
}
