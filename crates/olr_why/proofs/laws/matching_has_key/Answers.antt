use Rattle.olr_why.proofs.Matchings as matchings
use Rattle.olr_why.proofs.laws.matching_has_key.Goals as goal

pub returns : goal.returns
returns c = matchings.matching_has_key c.keys_of_matchings.ensures.keys
