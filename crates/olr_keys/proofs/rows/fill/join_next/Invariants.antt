use Rattle.olr_keys.proofs.Common.{◌≡◌, IsRowOf, width_of}
use Rattle.olr_keys.proofs.Remaining.{IsTotalBy}
use Rattle.olr_keys.proofs.rows.fill.join_next.Given as goal

abbrev pub invariant-loop-other : goal.invariant-loop-other
invariant-loop-other l = (l.second ≡ l.other-index)
    × IsRowOf (IsTotalBy l.table l.from.layer l.from.rank l.from.penalty l.second)
    (width_of l.table) l.row
