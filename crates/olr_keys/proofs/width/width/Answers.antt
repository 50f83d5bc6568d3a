use Rattle.olr_keys.proofs.Common.{arith}
use Rattle.olr_keys.proofs.Sizes.{width_is, width_at_most}
use Rattle.olr_keys.proofs.width.width.Goals as goal

pub returns-clause-at_most : goal.returns-clause-at_most
returns-clause-at_most c =
    grind (
      arith,
      width_is c.layers-layer-end.ensures.sound (omega arith) c.loop-layer.invariant.0,
      width_at_most _ c.layers-layer-end.ensures.sound,
    )
