use Rattle.std.proofs.Common.{arith}
use Rattle.olr_geojson.specs.Feature.{feature_text}
use Rattle.olr_report.specs.ShownMap.{map_shown}
use Rattle.olr_likely.specs.GeoJson.{place_feature}
use Rattle.olr_likely.proofs.Features.{one_more}
use Rattle.olr_likely.proofs.geojson.push_places.Goals as goal

pub loop-place-preserved : goal.loop-place-preserved
loop-place-preserved c = one_more (place_feature (map_shown c.args.drawing.now.on)
    c.args.drawing.now.reference.now c.args.drawing.now.part) feature_text c.args.places.now
    c.loop-place.place-index c.place-item.result _ _ _ (omega arith) c.place-item.is
    c.in_ok-push_place.ensures c.loop-place.invariant
