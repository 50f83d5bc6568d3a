use Rattle.olr_keys.proofs.OneChain as one
use Rattle.olr_keys.proofs.laws.no_page_behind_others.Goals as goal

pub returns : goal.returns
returns c = one.no_page_behind_others
