use Rattle.olr_likely.proofs.Missing.{at_least, none_missing}
use Rattle.olr_likely.proofs.likely_laws.none_is_missing.Goals as goal

pub returns-clause-at_least : goal.returns-clause-at_least
returns-clause-at_least c = at_least c.keys_of_matchings.ensures.totals

pub returns-clause-none_missing : goal.returns-clause-none_missing
returns-clause-none_missing c = none_missing c.keys_of_matchings.ensures.totals
