use Rattle.olr_candidates.proofs.AllPoints.{one_first}
use Rattle.olr_candidates.proofs.point_laws.one_first_too_many.Goals as goal

pub returns : goal.returns
returns c = λ tolerances reference lines. one_first _ _ _ c.no_list_of_point_and_too_many.ensures
