use Rattle.std.proofs.Common.{◌∙◌, ap, map}
use Rattle.olr_geojson.specs.Collection.{collection_text}
use Rattle.olr_report.specs.ShownMap.{map_shown}
use Rattle.olr_likely.specs.GeoJson.{place_feature, places_members}
use Rattle.olr_likely.proofs.Features.{not_empty}
use Rattle.olr_likely.proofs.geojson.shown_geojson.Goals as goal

pub returns : goal.returns
returns c = c.in_ok-text.ensures _ (places_members c.args.shown.now) (not_empty _ _ _)
    (c.deref-3.ensures
    ∙ (rw (c.new-features.ensures.bytes, c.deref.ensures.value) at c.in_ok-push_places.ensures))
    (c.deref-4.ensures ∙ c.in_ok-others.ensures.text_is)
    ∙ ap (λ before. collection_text before (map (place_feature (map_shown c.args.drawing.now.on)
    c.args.drawing.now.reference.now c.args.drawing.now.part) c.args.shown.now.places.items)
    (places_members c.args.shown.now)) (c.deref-2.ensures ∙ c.in_ok-before.ensures)
