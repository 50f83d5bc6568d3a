use Rattle.olr_keys.proofs.Common.{◌≡◌, IsLeastNumber}
use Rattle.olr_keys.proofs.Remaining.{IsTotalBy}
use Rattle.olr_keys.proofs.bound_table.least_by.Given as goal

abbrev pub invariant-loop-bound : goal.invariant-loop-bound
invariant-loop-bound l = (l.second ≡ l.bound-index)
    × IsLeastNumber (IsTotalBy l.table l.from.layer l.from.rank l.from.penalty l.second) l.least
