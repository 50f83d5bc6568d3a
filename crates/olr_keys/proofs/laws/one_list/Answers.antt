use Rattle.olr_keys.proofs.Listed as listed
use Rattle.olr_keys.proofs.laws.one_list.Goals as goal

pub returns-clause-at_most : goal.returns-clause-at_most
returns-clause-at_most c = listed.one_list

pub returns-clause-at_least : goal.returns-clause-at_least
returns-clause-at_least c = listed.has_list
