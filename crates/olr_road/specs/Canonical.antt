-- The canonical text of a map. It has three parts: the nodes, the lines and the bans. A part is a
-- heading, with the number of its rows, and behind it the rows. All files of one map have the same
-- text, whatever the order of their records and their leading zeros.
use Rattle.std.specs.Prelude.{ℕ, ◌-◌, List, [], ◌∷◌, ◌++◌, length, map, slice_index, slice_range, codes, decimal}
use Rattle.std.specs.Fmt.{signed_decimal}
use Rattle.std.specs.List.{concat, join_by}
use Rattle.olr_base.specs.Coordinates.{Coordinates}
use Rattle.olr_road.specs.declared.ban.Ban.{Ban}
use Rattle.olr_road.specs.RoadMap.{Node, node_ids, RoadLine, line_ids}
use Rattle.olr_road.specs.RoadMap.{RoadMap}

-- texts with a separator between each two neighbours
abbrev pub joined : List ℕ → List (List ℕ) → List ℕ
joined separator texts = join_by (λ (text : List ℕ). text) separator texts

-- ---- the fields of each row

-- a place: its longitude and its latitude in microdegrees, a space between them
abbrev pub place_text : Coordinates → List ℕ
place_text place = joined (codes " ") (signed_decimal place.lon ∷ signed_decimal place.lat ∷ [])

-- places, a semicolon between each two neighbours
abbrev pub shape_text : List Coordinates → List ℕ
shape_text places = joined (codes ";") (map place_text places)

-- the points of a line that lie between its ends
abbrev pub between_ends : List Coordinates → List Coordinates
between_ends points = slice_range points 1 (length points - 1)

-- the fields of a node
abbrev pub node_fields : Node → List (List ℕ)
node_fields node = decimal node.id ∷ signed_decimal node.place.lon ∷ signed_decimal node.place.lat
    ∷ []

-- the fields of a line: its nodes are named by their ids, and its shape is without its ends
abbrev pub line_fields : List Node → RoadLine → List (List ℕ)
line_fields nodes line = decimal line.id ∷ decimal (slice_index (node_ids nodes) line.from)
    ∷ decimal (slice_index (node_ids nodes) line.to)
    ∷ decimal line.class ∷ decimal line.form ∷ decimal line.length
    ∷ shape_text (between_ends line.points) ∷ []

-- the fields of a ban: its lines are named by their ids
abbrev pub ban_fields : List RoadLine → Ban → List (List ℕ)
ban_fields lines ban = decimal (slice_index (line_ids lines) ban.from)
    ∷ decimal (slice_index (line_ids lines) ban.to) ∷ []

-- ---- the text

-- the heading of a part, one field: the name of the part and how many rows follow
abbrev pub heading : List ℕ → ℕ → List (List ℕ)
heading name count = joined (codes " ") (name ∷ decimal count ∷ []) ∷ []

-- a part: its heading, and the fields of each row
abbrev pub part : List ℕ → List (List (List ℕ)) → List (List (List ℕ))
part name rows = heading name (length rows) ∷ rows

-- the nodes, by rising id
abbrev pub nodes_part : RoadMap → List (List (List ℕ))
nodes_part road = part (codes "nodes") (map node_fields road.nodes)

-- the lines, by rising id
abbrev pub lines_part : RoadMap → List (List (List ℕ))
lines_part road = part (codes "lines") (map (line_fields road.nodes) road.lines)

-- the bans, by rising ids of their lines
abbrev pub bans_part : RoadMap → List (List (List ℕ))
bans_part road = part (codes "bans") (map (ban_fields road.lines) road.bans)

-- the fields of all rows
abbrev pub canonical_fields : RoadMap → List (List (List ℕ))
canonical_fields road = nodes_part road ++ lines_part road ++ bans_part road

-- a row: its fields with commas between them, and a line feed at its end
abbrev pub row_text : List (List ℕ) → List ℕ
row_text fields = joined (codes ",") fields ++ codes "\n"

-- the rows of the text, headings among them
abbrev pub canonical_rows : RoadMap → List (List ℕ)
canonical_rows road = map row_text (canonical_fields road)

-- the text: all rows
abbrev pub canonical_text : RoadMap → List ℕ
canonical_text road = concat (canonical_rows road)
