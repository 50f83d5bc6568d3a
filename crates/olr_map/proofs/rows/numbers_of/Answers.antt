use Rattle.std.proofs.Common.{rules}
use Rattle.olr_map.proofs.rows.numbers_of.Goals as goal

pub returns-in_default-kind_at-clause-error : goal.returns-in_default-kind_at-clause-error
returns-in_default-kind_at-clause-error c = search rules depth 12

pub returns-in_default-kind_at-2-clause-error : goal.returns-in_default-kind_at-2-clause-error
returns-in_default-kind_at-2-clause-error c = search rules depth 12

pub returns-in_default-length_at-clause-error : goal.returns-in_default-length_at-clause-error
returns-in_default-length_at-clause-error c = search rules depth 12
