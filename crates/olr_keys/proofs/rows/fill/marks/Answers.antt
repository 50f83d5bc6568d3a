use Rattle.std.proofs.Common.{arith}
use Rattle.olr_keys.proofs.Layers.{next_rows, push_layer}
use Rattle.olr_keys.proofs.rows.fill.marks.Goals as goal

pub layer_rows-requires-clause-next : goal.layer_rows-requires-clause-next
layer_rows-requires-clause-next c =
    next_rows _ _ _ _ c.loop-later.invariant (omega arith) (omega arith) (cc)

pub loop-later-preserved : goal.loop-later-preserved
loop-later-preserved c = push_layer _ _ _ _ _ c.loop-later.invariant (omega arith)
    c.in_ok-rows.ensures c.in_ok-push.ensures.items
