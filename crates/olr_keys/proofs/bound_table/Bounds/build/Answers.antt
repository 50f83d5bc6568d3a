use Rattle.std.proofs.Common.{arith}
use Rattle.olr_keys.proofs.Bounding.{next_bounds, push_bounds}
use Rattle.olr_keys.proofs.bound_table.Bounds.build.Goals as goal

pub layer_bounds-requires-clause-next : goal.layer_bounds-requires-clause-next
layer_bounds-requires-clause-next c =
    next_bounds _ _ _ _ _ c.loop-later.invariant (omega arith) (omega arith) (cc)

pub loop-later-preserved : goal.loop-later-preserved
loop-later-preserved c = push_bounds _ _ _ _ _ c.loop-later.invariant (omega arith)
    c.in_ok-bounds.ensures c.in_ok-push.ensures.items
