use Rattle.olr_candidates.proofs.Common.{IsNearLineAt}
use Rattle.olr_candidates.proofs.OfPoints.{of_point}
use Rattle.olr_candidates.proofs.near_point.near_line.Goals as goal

pub returns : goal.returns
returns c = of_point _ _ _ _ c.query_of.ensures.query
    (λ t o p l. IsNearLineAt t o p l c.args.map.now.lines c.args.rank c.near_at.result)
    c.near_at.ensures
