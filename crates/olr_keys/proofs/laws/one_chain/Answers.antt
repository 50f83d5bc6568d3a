use Rattle.olr_keys.proofs.OneChain as one
use Rattle.olr_keys.proofs.laws.one_chain.Goals as goal

pub returns : goal.returns
returns c = λ penalties answers after size pages others list is are. one.one_chain _ list.rise _ _ _
    _ is.resumed is.ended are.resumed are.ended
