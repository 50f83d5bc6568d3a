use Rattle.olr_candidates.proofs.OneList.{not_too_many}
use Rattle.olr_candidates.proofs.laws.no_list_and_too_many.Goals as goal

pub returns : goal.returns
returns c = not_too_many
