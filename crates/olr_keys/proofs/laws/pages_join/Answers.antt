use Rattle.olr_keys.proofs.Chains as chains
use Rattle.olr_keys.proofs.laws.pages_join.Goals as goal

pub returns : goal.returns
returns c = λ penalties answers after size pages list. chains.pages_join _ _ list.rise _ _
