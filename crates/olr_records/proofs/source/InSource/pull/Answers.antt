use Rattle.std.proofs.Common.{rules}
use Rattle.olr_records.proofs.source.InSource.pull.Goals as goal

pub returns-in_default-clause-counts : goal.returns-in_default-clause-counts
returns-in_default-clause-counts c = search rules
