-- The JSON of the legs of a matching, as a value: each member of an object under its name, in the
-- order of the names. All numbers are whole; positions and lengths are in decimetres.
use Rattle.std.specs.Prelude.{Bool, true, false, List, Option, codes}
use Rattle.serde_json.specs.Data.{Data, boolean, member, no_members, null, object, string}
use Rattle.olr_keys.specs.Cursor.{key_text}
use Rattle.olr_keys.specs.Key.{KeyValue}
use Rattle.olr_report.specs.Json.{pieces_array}
use Rattle.olr_road.specs.RoadMap.{RoadMap}
use Rattle.olr_text.specs.JsonValues.{array_of, or_null, whole}
use Rattle.olr_legs.specs.declared.legs.LegAlternatives.{LegAlternatives}
use Rattle.olr_legs.specs.declared.other.Other.{Other}
use Rattle.olr_legs.specs.declared.other.Other.TheVariants.{Cut, Nothing, Path}
use Rattle.olr_legs.specs.declared.other.OtherPath.{OtherPath}
use Rattle.olr_legs.specs.declared.shorter.Shorter.{Shorter}

-- a class under which a leg would be shorter
abbrev pub shorter_object : Shorter → Data
shorter_object shorter =
    object (member (codes "by") (whole shorter.by)
    (member (codes "class") (whole shorter.class) no_members))

-- another path
abbrev pub path_object : RoadMap → OtherPath → Data
path_object road path =
    object (member (codes "longer") (whole path.longer)
    (member (codes "pieces") (pieces_array road path.pieces.items) no_members))

-- the other path of a leg, null where there is none or the search for it was cut
abbrev pub other_value : RoadMap → Other → Data
other_value road Cut = null
other_value road Nothing = null
other_value road (Path path) = path_object road path

-- whether the search was cut
abbrev pub is_cut : Other → Bool
is_cut Cut = true
is_cut Nothing = false
is_cut (Path path) = false

-- a leg
abbrev pub leg_object : RoadMap → LegAlternatives → Data
leg_object road leg = object (
    member (codes "cut") (boolean (is_cut leg.other)) (
    member (codes "greatest") (whole leg.greatest) (
    member (codes "least") (whole leg.least) (
    member (codes "length") (whole leg.length) (
    member (codes "limit") (whole leg.limit) (
    member (codes "other") (other_value road leg.other) (
    member (codes "pieces") (pieces_array road leg.pieces.items) (
    member (codes "shorter") (or_null shorter_object leg.shorter) no_members))))))))

-- the cursor of a matching, null where there is none
abbrev pub matching_value : Option KeyValue → Data
matching_value matching = or_null (λ (key : KeyValue). string (key_text key)) matching

-- the legs of a matching, and its cursor
abbrev pub legs_object : RoadMap → Option KeyValue → List LegAlternatives → Data
legs_object road matching legs =
    object (member (codes "legs") (array_of (leg_object road) legs)
    (member (codes "matching") (matching_value matching) no_members))
