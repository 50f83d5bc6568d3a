use Rattle.olr_road.proofs.CanonicalRows.{line_added}
use Rattle.olr_road.proofs.map.Map.push_line.Goals as goal

pub returns : goal.returns
returns c = line_added _ c.args.self.now.lines c.args.rank _ _ _ _ _
    c.line-id.ensures.line c.points-points.ensures.points c.node_id-from.ensures
    c.node_id-to.ensures c.in_ok-write.ensures.bytes
    c.in_ok-push_shape.ensures c.in_ok-push_str.ensures.bytes
