-- Nodes and lines as a map keeps them, and as contracts see them.
use Rattle.std.specs.Prelude.{ℕ, ◌*◌, ◌<◌, ◌≤◌, List, length, map, slice_range, All}
use Rattle.olr_base.specs.Coordinates.{coordinates_of}
use Rattle.olr_base.specs.declared.degrees.Degrees.{Degrees}
use Rattle.olr_index.specs.declared.window.BoundingBox.{BoundingBox}
use Rattle.olr_index.specs.Window.{IsBoundingBox}
use Rattle.olr_road.specs.declared.line_set.Entry.{Entry}
use Rattle.olr_road.specs.declared.node.Node.{Node as NodeByRank}
use Rattle.olr_road.specs.RoadMap.{Node, RoadLine, most_lines, node_of, line_of}

-- the ids by which nodes and lines are sorted
abbrev pub node_key : NodeByRank → ℕ
node_key node = node.id

abbrev pub entry_id : Entry → ℕ
entry_id entry = entry.line.id

abbrev pub line_id : RoadLine → ℕ
line_id line = line.id

-- nodes, as contracts see them
abbrev pub nodes_of : List NodeByRank → List Node
nodes_of nodes = map node_of nodes

-- a line whose points lie among those of all lines
abbrev pub line_in : List Degrees → Entry → RoadLine
line_in points entry =
    line_of entry.line (map coordinates_of (slice_range points entry.start entry.end))

-- the bounding box of an entry's points
abbrev pub HasBoundingBox : List Degrees → Entry → BoundingBox → Type 0
HasBoundingBox points entry bounding_box = IsBoundingBox (slice_range points entry.start entry.end) bounding_box

-- its points, of which there is one at least, are among them
pub record IsWithin (points : List Degrees) (entry : Entry) : Type 0 where
  pub order : entry.start < entry.end
  pub end : entry.end ≤ length points

-- lines whose points lie among those of all lines
abbrev pub lines_in : List Degrees → List Entry → List RoadLine
lines_in points entries = map (line_in points) entries

-- lines that are gathered for a map: the points of each are among those of all, and there are not
-- too many lines, nor too many points
pub record AreGathered (points : List Degrees) (entries : List Entry) : Type 0 where
  pub within : All (IsWithin points) entries
  pub room : length points ≤ 66 * length entries
  pub at_most : length entries ≤ most_lines
