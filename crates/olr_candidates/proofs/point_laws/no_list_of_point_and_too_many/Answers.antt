use Rattle.olr_candidates.proofs.PointLaws.{not_both}
use Rattle.olr_candidates.proofs.point_laws.no_list_of_point_and_too_many.Goals as goal

pub returns : goal.returns
returns c = not_both c.no_list_and_too_many.ensures
