use Rattle.olr_candidates.proofs.PointLaws.{rejected_of_point}
use Rattle.olr_candidates.proofs.point_laws.rejected.Goals as goal

pub returns : goal.returns
returns c = rejected_of_point c.one_projection.ensures
