use Rattle.std.proofs.Common.{◌∙◌, Some, suc, add-one, ap, arith, sym}
use Rattle.olr_shape.proofs.Segments.{point_at, segment_rises, spot_of_segment}
use Rattle.olr_shape.proofs.position.spot_within.Goals as goal

pub coordinates_between-requires-clause-positive :
    goal.coordinates_between-requires-clause-positive
coordinates_between-requires-clause-positive c =
    let line = c.args.line.now in
    let rises = segment_rises line c.args.segment c.points-points.ensures.measurable
    (omega arith) in
    let end = rw add-one at c.arc_of_point.ensures.arc in
    omega arith

pub returns : goal.returns
returns c =
    let line = c.args.line.now in
    let points = c.points-points.result.now in
    let same = c.points-points.ensures.points in
    let i = c.args.segment in
    spot_of_segment line.points line.length c.args.at i _ _
    (point_at points line.points i _ same (omega arith) c.index-points-segment.is)
    (point_at points line.points (suc i) _ same (omega arith)
    (rw add-one at c.index-points-segment-2.is))
    ∙ ap Some (sym (rw (
      c.arc_of_position.ensures,
      c.arc_of_point-start.ensures.arc,
      rw add-one at c.arc_of_point.ensures.arc,
    ) at c.coordinates_between.ensures))
