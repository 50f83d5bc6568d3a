use Rattle.std.proofs.Common.{◌∙◌}
use Rattle.olr_legs.specs.GeoJson.{path_properties}
use Rattle.olr_legs.proofs.geojson.push_path.Goals as goal

pub returns : goal.returns
returns c = rw c.deref.ensures.value at (c.in_ok-push_drawn.ensures
    (path_properties c.args.number c.args.path.now)
    (c.deref-2.ensures ∙ c.in_ok-text.ensures.text_is))
