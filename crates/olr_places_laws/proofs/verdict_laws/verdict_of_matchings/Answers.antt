use Rattle.olr_places_laws.proofs.Verdicts.{ambiguous_is_elsewhere, none_without_matching, unique_is_close}
use Rattle.olr_places_laws.proofs.verdict_laws.verdict_of_matchings.Goals as goal

pub returns-clause-none : goal.returns-clause-none
returns-clause-none c = none_without_matching

pub returns-clause-unique : goal.returns-clause-unique
returns-clause-unique c = unique_is_close c.one_entry.ensures.entry

pub returns-clause-ambiguous : goal.returns-clause-ambiguous
returns-clause-ambiguous c = ambiguous_is_elsewhere c.one_entry.ensures.entry
