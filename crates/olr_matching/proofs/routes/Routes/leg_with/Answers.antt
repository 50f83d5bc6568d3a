use Rattle.std.proofs.Common.{ap}
use Rattle.olr_matching.proofs.Pairs.{leg_of_pair}
use Rattle.olr_matching.proofs.routes.Routes.leg_with.Goals as goal

pub next_of-requires : goal.next_of-requires
next_of-requires c = (
  c.requires.pair.is.next,
  rw (
    ap (λ layers. layers.reference) c.layers.view_is,
    ap (λ routes. routes.layers.reference) c.self.view_is,
  ) c.requires.pair.is.leads_on,
)

pub returns : goal.returns
returns c = rw (← c.self.view_is)
    (leg_of_pair _ _ _ _ _ _ _ _ c.next_of.result c.args.route.items c.length-length.ensures
    (rw (← c.layers.view_is) c.next_of.ensures)
    c.leg_penalty.ensures.is c.from.ensures c.self.invariant.sound
    (rw (← c.self.view_is) at c.requires.route))
