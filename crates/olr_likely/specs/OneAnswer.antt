-- What is asked is one thing: places as they are asked for have one text, one JSON and one GeoJSON.
-- The laws are the contract of a public function that does nothing at run time.
use Rattle.std.specs.Prelude.{◌≡◌, List}
use Rattle.olr_binary.specs.declared.reference.Reference.{Reference}
use Rattle.olr_confidence.specs.Laws.{OneProbability, OneReasons, OneTerms}
use Rattle.olr_keys.specs.Key.{KeyValue}
use Rattle.olr_keys.specs.Laws.{OneList}
use Rattle.olr_road.specs.RoadMap.{IsSoundMap, RoadMap}
use Rattle.olr_matching.specs.Layers.{LayersValue}
use Rattle.olr_report.specs.ShownMap.{MapShown}
use Rattle.olr_report.specs.declared.route_part.RoutePart.{RoutePart}
use Rattle.olr_detail.specs.Laws.{OneMatchingDetail}
use Rattle.olr_places.specs.Looking.{IsLooked, Looked}
use Rattle.olr_places.specs.declared.limits.PlaceLimits.{PlaceLimits}
use Rattle.olr_likely.specs.Asking.{AreAsked}
use Rattle.olr_likely.specs.GeoJson.{shown_collection}
use Rattle.olr_likely.specs.Json.{shown_object}
use Rattle.olr_likely.specs.Text.{shown_text}
use Rattle.olr_likely.specs.declared.asked.AskedPlaces.{AskedPlaces}
use Rattle.olr_likely.specs.declared.showing.ShownPlaces.{ShownPlaces}

-- Looking at the matchings of a reference on a map gives one value at most. Here this is a premise:
-- it is a law of `olr_places_laws`, and no crate of the program stands on that one.
abbrev pub OneLooking : Type 0
OneLooking = (limits : PlaceLimits) (road : RoadMap) (layers : LayersValue)
    (answers : List KeyValue) (looked other : Looked) → IsSoundMap road
    → IsLooked limits road layers answers looked → IsLooked limits road layers answers other
    → looked ≡ other

-- Places that are asked for alike on the same map, of the same layers, have the same text
abbrev pub OneText : Type 0
OneText = OneLooking → (asked : AskedPlaces) (road : RoadMap) (layers : LayersValue)
    (one other : ShownPlaces) → IsSoundMap road → AreAsked asked road layers one
    → AreAsked asked road layers other → shown_text road one ≡ shown_text road other

-- and the same JSON, with shapes or without
abbrev pub OneJson : Type 0
OneJson = OneLooking → (asked : AskedPlaces) (on : MapShown) (layers : LayersValue)
    (one other : ShownPlaces) → IsSoundMap on.road → AreAsked asked on.road layers one
    → AreAsked asked on.road layers other → shown_object on one ≡ shown_object on other

-- and the same GeoJSON, drawn by the same part of the routes of the same reference
abbrev pub OneGeoJson : Type 0
OneGeoJson = OneLooking → (asked : AskedPlaces) (on : MapShown) (layers : LayersValue)
    (reference : Reference) (part : RoutePart) (one other : ShownPlaces) → IsSoundMap on.road
    → AreAsked asked on.road layers one → AreAsked asked on.road layers other
    → shown_collection on reference part one ≡ shown_collection on reference part other

-- ---- what these rest on

-- a table has one list of answers, what speaks for a matching is one thing, and so is what a
-- confidence says of places
pub record LawsBelow : Type 0 where
  pub list : OneList
  pub detail : OneMatchingDetail
  pub terms : OneTerms
  pub probability : OneProbability
  pub reasons : OneReasons
