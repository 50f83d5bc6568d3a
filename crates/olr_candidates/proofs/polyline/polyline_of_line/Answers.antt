use Rattle.olr_candidates.proofs.Common.{coordinates_of, spot_of, ◌≡◌, map, ap, ◌∙◌}
use Rattle.olr_candidates.proofs.Polylines.{spots_of, is_polyline}
use Rattle.olr_candidates.proofs.LineCandidates.{line_at, sound_at, points_at}
use Rattle.olr_candidates.proofs.polyline.polyline_of_line.Goals as goal

pub returns-clause-spots : goal.returns-clause-spots
returns-clause-spots c = λ line at.
    let origin = coordinates_of c.args.plane.now in
    c.polyline_of.ensures.spots ∙ spots_of origin _ ∙ ap (λ l. map (spot_of origin) l)
    (points_at c.args.map.now.lines c.args.rank _ at c.points.ensures.points)

pub returns-clause-polyline : goal.returns-clause-polyline
returns-clause-polyline c =
    let at = line_at _ _ c.requires in
    let sound = sound_at _ _ c.points.ensures.sound.lines.each at.1 in
    let points : map coordinates_of c.points.result.now ≡ at.0.points =
    points_at c.args.map.now.lines c.args.rank _ at.1 c.points.ensures.points in
    let origin = coordinates_of c.args.plane.now in
    is_polyline c.one_place_a_spot.ensures _ c.args.plane.now.lat_in_range _ _
    (c.polyline_of.ensures.spots ∙ spots_of origin _ ∙ ap (λ l. map (spot_of origin) l) points)
    sound.points_at_least sound.points_at_most sound.apart c.polyline_of.ensures.in_plane
