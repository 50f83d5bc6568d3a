use Rattle.olr_keys.specs.Rows.{IsRowOf, width_of}
use Rattle.olr_keys.proofs.Marking.{IsTotalAmong}
use Rattle.olr_keys.proofs.rows.fill.join_all.Given as goal

abbrev pub invariant-loop-index : goal.invariant-loop-index
invariant-loop-index l = IsRowOf (IsTotalAmong l.table l.index) (width_of l.table) l.row
