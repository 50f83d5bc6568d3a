use Rattle.olr_matching.proofs.One as one
use Rattle.olr_matching.proofs.matched.one_matched.Goals as goal

pub returns : goal.returns
returns c = one.one_matched c.one_route.ensures
