use Rattle.olr_keys.specs.Rows.{rows_of}
use Rattle.olr_keys.proofs.Marking.{AreFirstRows}
use Rattle.olr_keys.proofs.rows.fill.layer_rows.Given as goal

abbrev pub invariant-loop-index : goal.invariant-loop-index
invariant-loop-index l = AreFirstRows l.table l.layer l.index (rows_of l.rows.items)
