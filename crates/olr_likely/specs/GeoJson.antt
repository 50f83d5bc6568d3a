-- Places as features of GeoJSON, and their collection.
use Rattle.std.specs.Prelude.{ℕ, List, [], ◌++◌, Option, None, Some, codes, map, option_map}
use Rattle.serde_json.specs.Data.{Data, Members, boolean, string, no_members, member}
use Rattle.olr_binary.specs.declared.reference.Reference.{Reference}
use Rattle.olr_geojson.specs.Collection.{before_text, collection_text}
use Rattle.olr_geojson.specs.Feature.{Feature}
use Rattle.olr_text.specs.JsonValues.{maybe_member, whole, whole_or_null}
use Rattle.olr_report.specs.Json.{next_value}
use Rattle.olr_report.specs.Location.{first_length, located_value}
use Rattle.olr_report.specs.ShownMap.{MapShown}
use Rattle.olr_report.specs.declared.route_part.RoutePart.{RoutePart}
use Rattle.olr_detail.specs.Drawing.{geometry_drawn, part_named}
use Rattle.olr_places.specs.Verdict.{verdict_word}
use Rattle.olr_likely.specs.Json.{differs_value, map_differs_value, none_value, place_object}
use Rattle.olr_likely.specs.declared.showing.ShownPlace.{ShownPlace}
use Rattle.olr_likely.specs.declared.showing.ShownPlaces.{ShownPlaces}

-- a member before the features, and a comma, where there is a value
abbrev pub maybe_before : List ℕ → Option Data → List ℕ
maybe_before name None = []
maybe_before name (Some value) = before_text name value

-- the members of a collection of places before its features: in the likely order whether a place may
-- be missing, and where a confidence is given, which numbers differ from its own
abbrev pub before_places : ShownPlaces → List ℕ
before_places shown = maybe_before (codes "cut") (option_map boolean shown.cut)
    ++ maybe_before (codes "differs") (differs_value shown)

-- and behind them: how many matchings were looked at, the margin, the cursor after which looking would
-- go on, the type, and the verdict; and what else a confidence says of all
abbrev pub places_members : ShownPlaces → Members
places_members shown =
    member (codes "looked") (whole shown.looked) (
    maybe_member (codes "map_differs") (map_differs_value shown) (
    member (codes "margin") (whole_or_null shown.margin) (
    member (codes "next") (next_value shown.next None) (
    maybe_member (codes "none_of_these") (none_value shown) (
    member (codes "type") (string (codes "FeatureCollection")) (
    member (codes "verdict") (string (verdict_word shown.verdict)) no_members))))))

module _ (on : MapShown) (reference : Reference) (part : RoutePart) where
  -- a place of the reference, drawn by this part of the route of its opener
  abbrev pub place_feature : ShownPlace → Feature
  place_feature place = record {
    geometry = geometry_drawn on.road reference part (first_length place.opener.matched.legs)
        place.opener.route.items (located_value place.opener.covered.located);
    properties = place_object on (part_named reference part) place;
  }

  -- the collection of the places
  abbrev pub shown_collection : ShownPlaces → List ℕ
  shown_collection shown =
      collection_text (before_places shown) (map place_feature shown.places.items)
      (places_members shown)
