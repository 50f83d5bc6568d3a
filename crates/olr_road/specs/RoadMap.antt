-- A road map: nodes, lines and bans on turns, and what holds of every map.
use Rattle.std.specs.Prelude.{◌≡◌, ℕ, ◌+◌, ◌*◌, ◌<◌, ◌≤◌, List, [], ◌∷◌, ◌++◌, length, map, Some, slice_get, All}
use Rattle.std.specs.List.Sorted.{IsStrictlyIncreasing}
use Rattle.olr_base.specs.Coordinates.{Coordinates, coordinates_of, IsInRange}
use Rattle.olr_road.specs.declared.line.Line.{Line}
use Rattle.olr_road.specs.declared.node.Node.{Node as NodeByRank}
use Rattle.olr_road.specs.declared.ban.Ban.{Ban}

-- ---- nodes

-- a node
pub record Node : Type 0 where
  pub id : ℕ
  pub place : Coordinates

-- their ids
abbrev pub node_ids : List Node → List ℕ
node_ids nodes = map (λ (node : Node). node.id) nodes

-- the most of them
abbrev pub most_nodes : ℕ
most_nodes = 100000

-- ---- lines

-- A line: its id; the ranks of the nodes at which it starts and ends; its class, its form of way,
-- its length in decimetres; and its points, both ends among them.
pub record RoadLine : Type 0 where
  pub id : ℕ
  pub from : ℕ
  pub to : ℕ
  pub class : ℕ
  pub form : ℕ
  pub length : ℕ
  pub points : List Coordinates

-- a line, but for its points
abbrev pub head_of : RoadLine → Line
head_of line = record {
  id = line.id;
  from = line.from;
  to = line.to;
  class = line.class;
  form = line.form;
  length = line.length;
}

-- the line that is so, with these points
abbrev pub line_of : Line → List Coordinates → RoadLine
line_of head points = record {
  id = head.id;
  from = head.from;
  to = head.to;
  class = head.class;
  form = head.form;
  length = head.length;
  points = points;
}

-- their ids
abbrev pub line_ids : List RoadLine → List ℕ
line_ids lines = map (λ (line : RoadLine). line.id) lines

-- the most of them
abbrev pub most_lines : ℕ
most_lines = 200000

-- two neighbouring points are equal
pub record HasEqualNeighbours (points : List Coordinates) : Type 0 where
  pub front : List Coordinates
  pub rest : List Coordinates
  pub place : Coordinates
  pub equal : points ≡ front ++ place ∷ place ∷ rest

-- ---- bans on turns

-- The key of a ban: the ranks of its two lines, packed into one number. No map has 2 ^ 32 lines, so
-- bans are by rising key if they are by the rising rank of the line that they lead from, and those
-- from one line by the rising rank of the other.
abbrev pub ban_key : Ban → ℕ
ban_key ban = ban.from * 4294967296 + ban.to

-- their keys
abbrev pub ban_keys : List Ban → List ℕ
ban_keys bans = map ban_key bans

-- the most of them
abbrev pub most_bans : ℕ
most_bans = 200000

-- the second line of a ban starts at the node at which the first one ends
pub record IsAdjacent (lines : List RoadLine) (ban : Ban) : Type 0 where
  pub first : RoadLine
  pub second : RoadLine
  pub from : slice_get lines ban.from ≡ Some first
  pub to : slice_get lines ban.to ≡ Some second
  pub meet : second.from ≡ first.to

-- ---- the map

-- A map: nodes and lines, each by rising id, so that the rank of a node or a line, the number of
-- those with a lesser id, is its place in the list; and bans on turns from one line to another, by
-- the rising ranks of their lines.
pub record RoadMap : Type 0 where
  pub nodes : List Node
  pub lines : List RoadLine
  pub bans : List Ban

-- ---- what holds of every map

-- a node of a map: its id and its place are in their ranges
pub record IsSoundNode (node : Node) : Type 0 where
  pub named : 1 ≤ node.id
  pub id : node.id ≤ 9007199254740992
  pub inside : IsInRange node.place

-- the nodes of a map: sound ones within the limit, by rising id
pub record AreSoundNodes (nodes : List Node) : Type 0 where
  pub rise : IsStrictlyIncreasing (node_ids nodes)
  pub at_most : length nodes ≤ most_nodes
  pub each : All IsSoundNode nodes

-- A line of a map of so many nodes: its id, class and form are in their ranges, it starts and ends
-- at two of the nodes, it is 1 to 10,000,000 decimetres long, and it has 2 to 66 points in range,
-- of which no two neighbours are equal.
pub record IsSoundLine (nodes : ℕ) (line : RoadLine) : Type 0 where
  pub named : 1 ≤ line.id
  pub id : line.id ≤ 9007199254740992
  pub from : line.from < nodes
  pub to : line.to < nodes
  pub class : line.class ≤ 7
  pub form : line.form ≤ 7
  pub long : 1 ≤ line.length
  pub short : line.length ≤ 10000000
  pub points_at_least : 2 ≤ length line.points
  pub points_at_most : length line.points ≤ 66
  pub inside : All IsInRange line.points
  pub apart : HasEqualNeighbours line.points → ⊥

-- A line joins its nodes: its points begin at the place of the node at which it starts, and end at
-- the place of the node at which it ends.
pub record JoinsNodes (nodes : List Node) (line : RoadLine) : Type 0 where
  pub first : Node
  pub last : Node
  pub between : List Coordinates
  pub start : slice_get nodes line.from ≡ Some first
  pub end : slice_get nodes line.to ≡ Some last
  pub joined : line.points ≡ first.place ∷ between ++ last.place ∷ []

-- the lines of a map of these nodes: within the limit, sound ones by rising id, each of which joins
-- two of the nodes
pub record AreSoundLines (nodes : List Node) (lines : List RoadLine) : Type 0 where
  pub rise : IsStrictlyIncreasing (line_ids lines)
  pub at_most : length lines ≤ most_lines
  pub each : All (IsSoundLine (length nodes)) lines
  pub joined : All (JoinsNodes nodes) lines

-- the bans of a map of these lines: within the limit, by rising key, each of them between two lines
-- that meet
pub record AreSoundBans (lines : List RoadLine) (bans : List Ban) : Type 0 where
  pub rise : IsStrictlyIncreasing (ban_keys bans)
  pub at_most : length bans ≤ most_bans
  pub each : All (IsAdjacent lines) bans

-- a map: its nodes, its lines and its bans are sound
pub record IsSoundMap (road : RoadMap) : Type 0 where
  pub nodes : AreSoundNodes road.nodes
  pub lines : AreSoundLines road.nodes road.lines
  pub bans : AreSoundBans road.lines road.bans

-- the node that a call gives by rank
abbrev pub node_of : NodeByRank → Node
node_of node = record { id = node.id; place = coordinates_of node.place }

-- the ban on the turn from one line to another, by rank
abbrev pub ban_of : ℕ → ℕ → Ban
ban_of first second = record { from = first; to = second }

-- ---- lines by node

-- the node at which each line starts
abbrev pub origins_of : List RoadLine → List ℕ
origins_of lines = map (λ (line : RoadLine). line.from) lines

-- the node at which each line ends
abbrev pub destinations_of : List RoadLine → List ℕ
destinations_of lines = map (λ (line : RoadLine). line.to) lines
