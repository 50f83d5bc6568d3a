-- The JSON of lines of a map: each member of an object under its name, in the order of the names. All
-- numbers are whole: lengths are in decimetres, coordinates in microdegrees.
use Rattle.std.specs.Borrow.{Bor}
use Rattle.std.specs.Prelude.{ℕ, Bool, List, Option, None, codes, if◌then◌else◌, option_map, slice_get, unwrap_or}
use Rattle.serde_json.specs.Data.{Data, boolean, member, no_members, object}
use Rattle.olr_base.specs.Coordinates.{coordinates_of}
use Rattle.olr_base.specs.declared.degrees.Degrees.{Degrees}
use Rattle.olr_road.specs.RoadMap.{Node, RoadLine, RoadMap, head_of}
use Rattle.olr_road.specs.declared.line.Line.{Line}
use Rattle.olr_text.specs.JsonValues.{array_of, coordinates_array, maybe_member, or_null, whole}
use Rattle.olr_lines.specs.declared.lines.LinesInBox.{LinesInBox}
use Rattle.olr_lines.specs.declared.lines_on.ShownLine.{ShownLine}

-- the id of the node of a rank, 0 where there is none
abbrev pub node_id_at : RoadMap → ℕ → ℕ
node_id_at road rank =
    unwrap_or (option_map (λ (node : Node). node.id) (slice_get road.nodes rank)) 0

-- the points of a line, from its start to its end
abbrev pub shape_of : RoadLine → Data
shape_of line = array_of coordinates_array line.points

-- the same of the line of a rank, where shapes are asked for
abbrev pub points_if : RoadMap → Bool → ℕ → Option Data
points_if road shapes rank =
    if shapes then option_map shape_of (slice_get road.lines rank) else None

-- the points that a call returned
abbrev pub points_value : Bor (List Degrees) → Data
points_value points = array_of (λ (at : Degrees). coordinates_array (coordinates_of at)) points.now

-- A line that runs between the nodes of these ids, with this shape, if there is one: its class, form,
-- id and length.
abbrev pub line_object : ℕ → ℕ → Option Data → Line → Data
line_object from to shape line = object (
    member (codes "class") (whole line.class) (
    member (codes "form") (whole line.form) (
    member (codes "from") (whole from) (
    member (codes "id") (whole line.id) (
    member (codes "length") (whole line.length) (
    maybe_member (codes "shape") shape (
    member (codes "to") (whole to) no_members)))))))

-- the line of a rank of a map, with its shape where shapes are asked for; null where there is none
abbrev pub line_value : RoadMap → Bool → ℕ → Data
line_value road shapes rank = or_null
    (λ (line : RoadLine). line_object (node_id_at road line.from) (node_id_at road line.to)
    (points_if road shapes rank) (head_of line))
    (slice_get road.lines rank)

-- the object of a line that a call found
abbrev pub shown_object : ShownLine → Data
shown_object shown = line_object shown.from shown.to (option_map points_value shown.points) shown.line

-- lines of a map, and whether there are others
abbrev pub lines_object : RoadMap → Bool → LinesInBox → Data
lines_object road shapes found = object (
    member (codes "lines") (array_of (line_value road shapes) found.ranks.items) (
    member (codes "more") (boolean found.more) no_members))
