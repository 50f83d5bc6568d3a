use Rattle.olr_candidates.proofs.AllPoints as all
use Rattle.olr_candidates.proofs.point_laws.no_lists_and_too_many.Goals as goal

pub returns : goal.returns
returns c = λ tolerances reference lines. all.no_lists_and_too_many _ _ _
    c.no_list_of_point_and_too_many.ensures
