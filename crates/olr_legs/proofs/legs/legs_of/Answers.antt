use Rattle.olr_legs.proofs.LegParts.{one_more}
use Rattle.olr_legs.proofs.legs.legs_of.Goals as goal

pub loop-layer-preserved : goal.loop-layer-preserved
loop-layer-preserved c = one_more c.args.map.now c.args.layers.now c.args.matched.now c.args.near
    c.loop-layer.layer c.loop-layer.legs.items c.push.new.self.items c.in_ok-leg_of.field-0
    c.loop-layer.invariant c.in_ok-leg_of.ensures c.in_ok-push.ensures.items
