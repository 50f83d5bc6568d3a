use Rattle.olr_candidates.proofs.AllPoints as all
use Rattle.olr_candidates.proofs.point_laws.one_lists.Goals as goal

pub returns : goal.returns
returns c = λ tolerances reference lines. all.one_lists _ _ _ c.one_list_of_point.ensures
