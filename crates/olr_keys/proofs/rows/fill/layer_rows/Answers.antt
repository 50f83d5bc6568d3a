use Rattle.std.proofs.Common.{arith}
use Rattle.olr_keys.proofs.Common.{with_items_is}
use Rattle.olr_keys.proofs.Marking.{push_row}
use Rattle.olr_keys.proofs.rows.fill.layer_rows.Goals as goal

pub loop-index-preserved : goal.loop-index-preserved
loop-index-preserved c =
    let marked = with_items_is c.in_ok-row.row c.mark_row.new.row (omega arith) in
    push_row _ _ _ _ _ _ c.loop-index.invariant (rw marked c.mark_row.ensures)
    c.in_ok-push.ensures.items
