use Rattle.std.proofs.Common.{◌≡◌, ◌++◌, drop, map, string_bytes}
use Rattle.olr_geojson.specs.Feature.{feature_text}
use Rattle.olr_geojson.specs.Joined.{behind_commas}
use Rattle.olr_report.specs.ShownMap.{map_shown}
use Rattle.olr_likely.specs.GeoJson.{place_feature}
use Rattle.olr_likely.proofs.geojson.push_places.Given as goal

-- the text so far, with the places that are left, is the whole text
abbrev pub invariant-loop-place : goal.invariant-loop-place
invariant-loop-place l =
    let feature = place_feature (map_shown l.drawing.on) l.drawing.reference.now l.drawing.part in
    string_bytes l.out ++ behind_commas feature_text (map feature (drop l.place-index l.places))
    ≡ string_bytes l.initial.out ++ behind_commas feature_text (map feature l.places)
