-- Where a feature lies, and its text.
use Rattle.std.specs.Prelude.{ℕ, List, ◌++◌, codes, map}
use Rattle.olr_base.specs.Coordinates.{Coordinates, coordinates_of}
use Rattle.olr_geojson.specs.Coordinate.{position_text}
use Rattle.olr_geojson.specs.Joined.{joined}
use Rattle.olr_geojson.specs.declared.geometry.Geometry.{Geometry as Shown}
use Rattle.olr_geojson.specs.declared.geometry.Geometry.TheVariants.{Missing, Point, LineString}

-- nowhere, at a position, or along a line through positions
pub data Geometry : Type 0 where
  missing : Geometry
  point : Coordinates → Geometry
  line_string : List Coordinates → Geometry

-- that of a `Geometry` of the code
abbrev pub geometry_of : Shown → Geometry
geometry_of Missing = missing
geometry_of (Point position) = point (coordinates_of position)
geometry_of (LineString positions) = line_string (map coordinates_of positions.now)

abbrev pub geometry_text : Geometry → List ℕ
geometry_text missing = codes "null"
geometry_text (point position) =
    codes "{\"coordinates\":" ++ position_text position ++ codes ",\"type\":\"Point\"}"
geometry_text (line_string positions) =
    codes "{\"coordinates\":[" ++ joined position_text positions
    ++ codes "],\"type\":\"LineString\"}"
