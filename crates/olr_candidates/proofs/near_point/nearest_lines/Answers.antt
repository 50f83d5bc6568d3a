use Rattle.olr_candidates.proofs.Common.{AreNearest}
use Rattle.olr_candidates.proofs.OfPoints.{of_point}
use Rattle.olr_candidates.proofs.near_point.nearest_lines.Goals as goal

pub returns : goal.returns
returns c = of_point _ _ _ _ c.query_of-query.ensures.query
    (λ t o p l. AreNearest t o p l c.args.on.now.map.now.lines c.args.count
    c.in_ok-nearest.nearest.items) c.in_ok-nearest.ensures
