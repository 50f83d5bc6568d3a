use Rattle.std.proofs.Common.{◌∙◌}
use Rattle.olr_legs.specs.GeoJson.{leg_properties}
use Rattle.olr_legs.proofs.geojson.push_leg.Goals as goal

pub returns : goal.returns
returns c = rw c.deref.ensures.value at (c.in_ok-push_drawn.ensures
    (leg_properties c.args.on.now.map.now c.args.number c.args.leg.now)
    (c.deref-2.ensures ∙ c.in_ok-text.ensures.text_is))
