use Rattle.olr_candidates.proofs.OneList as ordered
use Rattle.olr_candidates.proofs.laws.one_list.Goals as goal

pub returns : goal.returns
returns c = ordered.one_list
