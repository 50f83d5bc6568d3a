use Rattle.std.proofs.Common.{refl}
use Rattle.olr_candidates.proofs.OfPoints.{answered}
use Rattle.olr_candidates.proofs.point.candidates.Goals as goal

pub returns : goal.returns
returns c = rw c.ok_or.ensures.value
    (answered _ _ _ _ c.query_of-query.ensures.query _ _ _ refl c.search_near.ensures)
