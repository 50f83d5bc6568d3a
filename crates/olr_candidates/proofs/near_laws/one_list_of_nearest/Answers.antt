use Rattle.olr_candidates.proofs.NearestLines as nearest
use Rattle.olr_candidates.proofs.near_laws.one_list_of_nearest.Goals as goal

pub returns : goal.returns
returns c = nearest.one_list_of_nearest
