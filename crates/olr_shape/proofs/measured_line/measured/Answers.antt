use Rattle.olr_shape.proofs.Lines.{is_measured, line_at, sound_at, whole_line}
use Rattle.olr_shape.proofs.measured_line.measured.Goals as goal

pub invariant_of-result : goal.invariant_of-result
invariant_of-result c =
    let lines = c.args.map.now.lines in
    let at = line_at lines c.args.rank c.requires in
    let sound = sound_at lines c.args.rank c.points-points.ensures.sound.lines.each at.1 in
    let whole = whole_line lines c.args.rank at.0 _ _ at.1 c.line.ensures.line
    c.points-points.ensures.points in
    is_measured at.0 _ _ _ _ _ _ _ sound whole c.index-points-0.is c.at-plane.ensures
    (c.polyline_of_line.ensures.spots at.0 at.1) c.deref.ensures.0 c.arcs_of.ensures
