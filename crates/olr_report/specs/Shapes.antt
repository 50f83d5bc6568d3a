-- Where a matching lies on the map, in microdegrees: the spots of its candidates, and the shapes of
-- its route and its location. (They are this project's choice: references have none.)
use Rattle.std.specs.Global.{Vec}
use Rattle.std.specs.Prelude.{ℕ, ◌+◌, ◌/◌, List, Option, None, Some, codes, option_and_then, option_map}
use Rattle.serde_json.specs.Data.{Data, object, no_members, member}
use Rattle.olr_base.specs.Coordinates.{Coordinates, coordinates_of}
use Rattle.olr_base.specs.declared.degrees.Degrees.{Degrees}
use Rattle.olr_binary.specs.declared.reference.Reference.TheVariants.{Line, PointAlong}
use Rattle.olr_shape.specs.Position.{spot_on}
use Rattle.olr_shape.specs.Shape.{shape_on}
use Rattle.olr_text.specs.JsonValues.{array_of, coordinates_array, or_null}
use Rattle.olr_report.specs.Common.{Piece, Place, Reference, RoadMap}
use Rattle.olr_report.specs.Location.{LocatedLine, LocatedPoint, LocatedValue, earliest_offset, latest_offset}
use Rattle.olr_report.specs.ShownMap.{MapShown}
use Rattle.olr_report.specs.Steps.{place_at, steps_of}
use Rattle.olr_report.specs.declared.shape_json.MatchingShape.{MatchingShape}
use Rattle.olr_report.specs.declared.shape_json.MatchingShape.TheVariants as drawn
use Rattle.olr_report.specs.declared.shape_json.PointSpots.{PointSpots}

-- ---- the middle of a point along a line

-- The distance half way between those of its earliest and of its latest place, rounded down, on a
-- leg of this length in decimetres.
abbrev pub middle_distance : Option ℕ → ℕ → ℕ
middle_distance positive length =
    (earliest_offset positive length + latest_offset positive length) / 2

-- The place in the middle of a point along a line, on the route of its one leg, which has this
-- length. None for a line.
abbrev pub middle_of : Reference → ℕ → List Piece → Option Place
middle_of (Line points positive negative) length route = None
middle_of (PointAlong points orientation side positive) length route =
    place_at (steps_of route) (middle_distance positive length)

-- ---- as JSON

-- a spot, null where there is none
abbrev pub spot_value : Option Coordinates → Data
spot_value spot = or_null coordinates_array spot

-- the spots of a shape
abbrev pub shape_array : RoadMap → List Piece → Data
shape_array road pieces = array_of coordinates_array (shape_on road pieces)

-- the shape of a part, null where it is none
abbrev pub part_shape : RoadMap → Option (List Piece) → Data
part_shape road part = or_null (shape_array road) part

-- The shape of a matching with this route and location: of a line the shapes of its parts and of the
-- whole route, of a point along a line that of the route.
abbrev pub shape_object : RoadMap → List Piece → LocatedValue → Data
shape_object road route (LocatedLine outer inner) = object (
    member (codes "inner") (part_shape road inner) (
    member (codes "outer") (part_shape road outer) (
    member (codes "route") (shape_array road route) no_members)))
shape_object road route (LocatedPoint earliest latest) =
    object (member (codes "route") (shape_array road route) no_members)

-- where a point along a line lies: the spots of its earliest, its latest and its middle place
abbrev pub spots_object : RoadMap → Place → Place → Option Place → Data
spots_object road earliest latest middle = object (
    member (codes "earliest") (spot_value (spot_on road earliest)) (
    member (codes "latest") (spot_value (spot_on road latest)) (
    member (codes "middle") (spot_value (option_and_then (spot_on road) middle)) no_members)))

-- The same of a location on this route, whose first leg has this length. A line has none.
abbrev pub spots_of : RoadMap → Reference → ℕ → List Piece → LocatedValue → Option Data
spots_of road reference length route (LocatedLine outer inner) = None
spots_of road reference length route (LocatedPoint earliest latest) =
    Some (spots_object road earliest latest (middle_of reference length route))

-- ---- as a call returned it

-- the pair of coordinates
abbrev pub place_value : Degrees → Data
place_value at = coordinates_array (coordinates_of at)

-- the coordinates of a shape, null where there is none
abbrev pub points_value : Option (Vec Degrees) → Data
points_value shape = or_null (λ (points : Vec Degrees). array_of place_value points.items) shape

-- where a point along a line lies
abbrev pub spots_value : PointSpots → Data
spots_value spots = object (
    member (codes "earliest") (or_null place_value spots.earliest) (
    member (codes "latest") (or_null place_value spots.latest) (
    member (codes "middle") (or_null place_value spots.middle) no_members)))

-- the shape of a matching
abbrev pub shape_value : MatchingShape → Data
shape_value (drawn.Line inner outer route) = object (
    member (codes "inner") (points_value inner) (
    member (codes "outer") (points_value outer) (
    member (codes "route") (array_of place_value route.items) no_members)))
shape_value (drawn.Point route) =
    object (member (codes "route") (array_of place_value route.items) no_members)

-- ---- where shapes are asked for

-- the spot of a place
abbrev pub spot_if_asked : MapShown → Place → Option Data
spot_if_asked on place =
    option_and_then (λ (reference : Reference). option_map coordinates_array (spot_on on.road place))
    on.shapes_of

-- the shape of a matching
abbrev pub shape_if_asked : MapShown → List Piece → LocatedValue → Option Data
shape_if_asked on route located =
    option_map (λ (reference : Reference). shape_object on.road route located) on.shapes_of

-- where it lies, where it is a point along a line
abbrev pub spots_if_asked : MapShown → ℕ → List Piece → LocatedValue → Option Data
spots_if_asked on length route located = option_and_then
    (λ (reference : Reference). spots_of on.road reference length route located) on.shapes_of
