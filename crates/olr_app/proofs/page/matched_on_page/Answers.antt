use Rattle.std.proofs.lemmas.Slice.Zip.{AllZip-long}
use Rattle.olr_detail.specs.Page.{CanBeShownInDetail}
use Rattle.olr_app.proofs.Common.{IsKey, IsMatchedBy, ap, ◌∙◌, length}
use Rattle.olr_app.proofs.PagesOf.{all_related}
use Rattle.olr_app.proofs.page.matched_on_page.Goals as goal

pub returns-clause-one_each : goal.returns-clause-one_each
returns-clause-one_each c =
    AllZip-long (IsMatchedBy c.args.routes.now.road c.args.routes.now.layers) c.deref.result.now
    c.in_ok-matched.matched.items c.in_ok-matched.ensures.matched ∙ ap length c.deref.ensures.value

pub returns-clause-shown : goal.returns-clause-shown
returns-clause-shown c =
    let road = c.args.routes.now.road in
    let layers = c.args.routes.now.layers in
    let sound = rw c.map.ensures at c.sound.ensures in
    all_related (IsKey layers.penalties) (IsMatchedBy road layers)
    (CanBeShownInDetail layers.tolerances layers.reference road) c.args.page.now.keys.items
    c.in_ok-matched.matched.items c.requires
    (rw c.deref.ensures.value at c.in_ok-matched.ensures.matched) (λ key one is_key is. record {
      shown = c.sound_parts_can_be_shown.ensures road layers.reference one
          (c.matchings_are_sound.ensures road layers key one sound c.layers-layers.ensures.on_map
          is_key is);
      detailed = c.matchings_can_be_detailed.ensures road layers key one
          c.layers-layers.ensures.on_map is;
    })
