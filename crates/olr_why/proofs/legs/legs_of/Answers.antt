use Rattle.olr_why.proofs.Lists.{one_more_element}
use Rattle.olr_why.proofs.legs.legs_of.Goals as goal

pub loop-layer-preserved : goal.loop-layer-preserved
loop-layer-preserved c = one_more_element c.loop-layer.invariant c.in_ok-leg_of.ensures
    c.in_ok-push.ensures.items
