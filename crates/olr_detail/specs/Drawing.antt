-- Where a matching is drawn on the map.
use Rattle.std.specs.Prelude.{ℕ, List, Option, None, Some, option_and_then}
use Rattle.olr_base.specs.Coordinates.{Coordinates}
use Rattle.olr_binary.specs.declared.reference.Reference.{Reference}
use Rattle.olr_binary.specs.declared.reference.Reference.TheVariants.{Line, PointAlong}
use Rattle.olr_geojson.specs.Geometry.{Geometry, line_string, missing, point}
use Rattle.olr_report.specs.Location.{LocatedLine, LocatedPoint, LocatedValue}
use Rattle.olr_report.specs.Shapes.{middle_of}
use Rattle.olr_report.specs.declared.route_part.RoutePart.{RoutePart}
use Rattle.olr_report.specs.declared.route_part.RoutePart.TheVariants.{Inner, Outer, Route}
use Rattle.olr_road.specs.RoadMap.{RoadMap}
use Rattle.olr_route.specs.declared.piece.Piece.{Piece}
use Rattle.olr_shape.specs.Position.{spot_on}
use Rattle.olr_shape.specs.Shape.{shape_on}

-- the part of the route that is drawn and named: none of a point along a line, which is a point
abbrev pub part_named : Reference → RoutePart → Option RoutePart
part_named (Line points positive negative) part = Some part
part_named (PointAlong points orientation side positive) part = None

-- pieces, along their shape; nowhere where there are none
abbrev pub pieces_drawn : RoadMap → Option (List Piece) → Geometry
pieces_drawn road None = missing
pieces_drawn road (Some pieces) = line_string (shape_on road pieces)

-- a spot; nowhere where there is none
abbrev pub spot_drawn : Option Coordinates → Geometry
spot_drawn None = missing
spot_drawn (Some spot) = point spot

-- the pieces of a part of the route of a line
abbrev pub part_pieces : RoutePart → List Piece → Option (List Piece) → Option (List Piece)
    → Option (List Piece)
part_pieces Route route outer inner = Some route
part_pieces Outer route outer inner = outer
part_pieces Inner route outer inner = inner

-- A matching of a reference with this route and location, whose first leg has this length in
-- decimetres: of a line this part of the route, of a point along a line its middle.
abbrev pub geometry_drawn : RoadMap → Reference → RoutePart → ℕ → List Piece → LocatedValue
    → Geometry
geometry_drawn road reference part length route (LocatedLine outer inner) =
    pieces_drawn road (part_pieces part route outer inner)
geometry_drawn road reference part length route (LocatedPoint earliest latest) =
    spot_drawn (option_and_then (spot_on road) (middle_of reference length route))
