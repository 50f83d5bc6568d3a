use Rattle.olr_candidates.proofs.OfPoints.{rated}
use Rattle.olr_candidates.proofs.point.candidate_of_line.Goals as goal

pub returns : goal.returns
returns c = rated _ _ _ _ c.query_of.ensures.query c.args.map.now.lines c.args.rank _
    c.candidate_at.ensures
