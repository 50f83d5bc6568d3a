use Rattle.std.proofs.Common.{[], slice_index_or, ap, arith}
use Rattle.olr_keys.proofs.Joining.{lanes_joined}
use Rattle.olr_keys.proofs.shifted.or_into.Goals as goal

pub loop-lanes-preserved : goal.loop-lanes-preserved
loop-lanes-preserved c = (
  omega arith,
  lanes_joined _ _ _ _ _ _ _ _ c.requires (omega arith) (omega arith) c.loop-lanes.invariant.0
      (ap (λ xs. slice_index_or xs c.loop-lanes.lanes-index []) c.as_chunks.ensures.front)
      c.loop-lanes.invariant.1,
)
