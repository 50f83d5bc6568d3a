-- The legs of a matching as features of GeoJSON. Legs are counted from 1.
use Rattle.std.specs.Prelude.{ℕ, ◌+◌, List, [], ◌∷◌, ◌++◌, Option, codes}
use Rattle.serde_json.specs.Data.{Data, Members, boolean, member, no_members, object, string}
use Rattle.olr_geojson.specs.Feature.{Feature}
use Rattle.olr_geojson.specs.Geometry.{line_string}
use Rattle.olr_keys.specs.Key.{KeyValue}
use Rattle.olr_report.specs.Json.{pieces_array}
use Rattle.olr_road.specs.RoadMap.{RoadMap}
use Rattle.olr_shape.specs.Shape.{shape_on}
use Rattle.olr_text.specs.JsonValues.{or_null, whole}
use Rattle.olr_legs.specs.Json.{is_cut, matching_value, shorter_object}
use Rattle.olr_legs.specs.declared.legs.LegAlternatives.{LegAlternatives}
use Rattle.olr_legs.specs.declared.other.Other.{Other}
use Rattle.olr_legs.specs.declared.other.Other.TheVariants.{Cut, Nothing, Path}
use Rattle.olr_legs.specs.declared.other.OtherPath.{OtherPath}

-- the properties of a leg: the members of its object but for the other path, its number, and that
-- it is the leg itself
abbrev pub leg_properties : RoadMap → ℕ → LegAlternatives → Data
leg_properties road number leg = object (
    member (codes "cut") (boolean (is_cut leg.other)) (
    member (codes "greatest") (whole leg.greatest) (
    member (codes "least") (whole leg.least) (
    member (codes "leg") (whole number) (
    member (codes "length") (whole leg.length) (
    member (codes "limit") (whole leg.limit) (
    member (codes "part") (string (codes "leg")) (
    member (codes "pieces") (pieces_array road leg.pieces.items) (
    member (codes "shorter") (or_null shorter_object leg.shorter) no_members)))))))))

-- those of its other path: the number of the leg, and by how much it is longer
abbrev pub path_properties : ℕ → OtherPath → Data
path_properties number path = object (
    member (codes "leg") (whole number) (
    member (codes "longer") (whole path.longer) (
    member (codes "part") (string (codes "other")) no_members)))

-- a leg, drawn by its pieces
abbrev pub leg_feature : RoadMap → ℕ → LegAlternatives → Feature
leg_feature road number leg = record {
  geometry = line_string (shape_on road leg.pieces.items);
  properties = leg_properties road number leg;
}

-- its other path, likewise
abbrev pub path_feature : RoadMap → ℕ → OtherPath → Feature
path_feature road number path = record {
  geometry = line_string (shape_on road path.pieces.items);
  properties = path_properties number path;
}

-- the feature of the other path, where there is one
abbrev pub other_features : RoadMap → ℕ → Other → List Feature
other_features road number Cut = []
other_features road number Nothing = []
other_features road number (Path path) = path_feature road number path ∷ []

-- the features of a leg: itself, and behind it its other path
abbrev pub features_of_leg : RoadMap → ℕ → LegAlternatives → List Feature
features_of_leg road number leg =
    leg_feature road number leg ∷ other_features road number leg.other

-- those of legs, the first of which has this number
abbrev pub features_of_legs : RoadMap → ℕ → List LegAlternatives → List Feature
features_of_legs road number [] = []
features_of_legs road number (leg ∷ legs) =
    features_of_leg road number leg ++ features_of_legs road (number + 1) legs

-- the members of a collection behind its features, where this tells the matching
abbrev pub members_with : Data → Members
members_with matching =
    member (codes "matching") matching
    (member (codes "type") (string (codes "FeatureCollection")) no_members)

-- with the cursor of the matching, null where there is none
abbrev pub collection_members : Option KeyValue → Members
collection_members matching = members_with (matching_value matching)
