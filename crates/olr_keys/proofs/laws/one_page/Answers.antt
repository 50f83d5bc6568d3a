use Rattle.olr_keys.proofs.OneChain as one
use Rattle.olr_keys.proofs.laws.one_page.Goals as goal

pub returns : goal.returns
returns c = λ penalties answers after size page other list. one.one_page _ list.rise _ _ _ _
