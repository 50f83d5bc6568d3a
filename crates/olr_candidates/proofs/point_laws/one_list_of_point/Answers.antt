use Rattle.olr_candidates.proofs.PointLaws.{one_list}
use Rattle.olr_candidates.proofs.point_laws.one_list_of_point.Goals as goal

pub returns : goal.returns
returns c = one_list c.one_list.ensures
