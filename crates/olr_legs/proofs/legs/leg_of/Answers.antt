use Rattle.olr_legs.proofs.LegParts.{at_layer, leads_on}
use Rattle.olr_legs.proofs.legs.leg_of.Goals as goal

pub next_of-next-requires : goal.next_of-next-requires
next_of-next-requires c = rw c.reference.ensures
    (leads_on c.args.map.now c.args.layers.now c.args.matched.now c.requires.key c.args.layer
    c.requires.within)

pub returns : goal.returns
returns c = at_layer c.args.map.now c.args.layers.now c.args.matched.now c.requires.key c.args.near
    c.args.layer c.next_of-next.result c.leg_at-leg.result c.in_ok-alternatives.alternatives
    c.leg_at-leg.ensures.layer c.in_ok-alternatives.ensures
