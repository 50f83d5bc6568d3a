-- The three files of a map as tables: the nodes, the lines and the bans of their texts, or the
-- faults of these.
use Rattle.std.specs.Prelude.{ℕ, List, []}
use Rattle.olr_records.specs.declared.file.File.TheVariants.{Nodes, Lines, Bans}
use Rattle.olr_road.specs.declared.ban.Ban.{Ban}
use Rattle.olr_road.specs.RoadMap.{most_nodes, most_lines, most_bans, Node, RoadLine, ban_key}
use Rattle.olr_map.specs.declared.fault.MapFault.{MapFault}
use Rattle.olr_map.specs.Rows.{node_header, line_header, ban_header, IsNode, IsLine, IsBan}
use Rattle.olr_map.specs.Faults.{node_columns, line_columns, ban_columns, IsRepeated, IsRepeatedBan, line_checks, ban_checks}
use Rattle.olr_map.specs.Table.{Table, IsTableOf, IsFaultOfTable}

-- the file of nodes
abbrev pub nodes_table : Table Node
nodes_table = record {
  file = Nodes;
  header = node_header;
  most = most_nodes;
  key = λ (node : Node). node.id;
  IsRow = IsNode;
  columns = node_columns;
  Repeats = IsRepeated;
  later = λ n fields. [];
}

-- the file of lines, on nodes by rising id
abbrev pub lines_table : List Node → Table RoadLine
lines_table nodes = record {
  file = Lines;
  header = line_header;
  most = most_lines;
  key = λ (line : RoadLine). line.id;
  IsRow = IsLine nodes;
  columns = line_columns;
  Repeats = IsRepeated;
  later = line_checks nodes;
}

-- the file of bans, on lines by rising id
abbrev pub bans_table : List RoadLine → Table Ban
bans_table lines = record {
  file = Bans;
  header = ban_header;
  most = most_bans;
  key = ban_key;
  IsRow = IsBan lines;
  columns = ban_columns;
  Repeats = IsRepeatedBan lines;
  later = ban_checks lines;
}

-- the nodes of a text, by rising id
abbrev pub IsNodeSet : List ℕ → List Node → Type 0
IsNodeSet text sorted = IsTableOf nodes_table text sorted

-- the lines of a text, by rising id, on nodes by rising id
abbrev pub IsLineSet : List Node → List ℕ → List RoadLine → Type 0
IsLineSet nodes text sorted = IsTableOf (lines_table nodes) text sorted

-- the bans of a text, by rising key, on lines by rising id
abbrev pub IsBanSet : List RoadLine → List ℕ → List Ban → Type 0
IsBanSet lines text sorted = IsTableOf (bans_table lines) text sorted

-- the fault of a text of nodes
abbrev pub IsNodesFault : List ℕ → MapFault → Type 0
IsNodesFault text fault = IsFaultOfTable nodes_table text fault

-- the fault of a text of lines, on nodes by rising id
abbrev pub IsLinesFault : List Node → List ℕ → MapFault → Type 0
IsLinesFault nodes text fault = IsFaultOfTable (lines_table nodes) text fault

-- the fault of a text of bans, on lines by rising id
abbrev pub IsBansFault : List RoadLine → List ℕ → MapFault → Type 0
IsBansFault lines text fault = IsFaultOfTable (bans_table lines) text fault
