use Rattle.olr_report.proofs.OneEntry.{one_entries, one_entry, one_of_parts}
use Rattle.olr_report.proofs.entry_laws.one_entry.Goals as goal

pub returns-clause-parts : goal.returns-clause-parts
returns-clause-parts c = one_of_parts c.one_route_of_steps.ensures

pub returns-clause-entry : goal.returns-clause-entry
returns-clause-entry c = one_entry c.one_route_of_steps.ensures c.one_matched.ensures

pub returns-clause-entries : goal.returns-clause-entries
returns-clause-entries c = one_entries c.one_route_of_steps.ensures c.one_matched.ensures
