-- The lengths to the starts of lines that a search has found, in decimetres. What is kept of a line
-- itself comes first: a length, or that the line isn't reached. Where nothing is, the length that
-- is kept for its node is the line's.
use Rattle.std.specs.Prelude.{ℕ, Option, Some, None, unwrap_or, slice_get, nat_eq}
use Rattle.std.specs.HashMap.{get}
use Rattle.olr_road.specs.RoadMap.{RoadMap, origins_of}
use Rattle.olr_route.specs.declared.starts.Starts.{Starts}
use Rattle.olr_route.specs.NodeLengths.{length_of}

-- the length that is kept for a node, if there is a node
abbrev pub node_length : (ℕ → Option ℕ) → Option ℕ → Option ℕ
node_length nodes None = None
node_length nodes (Some node) = nodes node

-- The length to the start of a line, if it is reached: what is kept for the line itself, else the
-- length of the node at which it starts.
abbrev pub start_length : RoadMap → (ℕ → Option ℕ) → (ℕ → Option (Option ℕ)) → ℕ → Option ℕ
start_length road nodes own line =
    unwrap_or (own line) (node_length nodes (slice_get (origins_of road.lines) line))

-- the length to the start of each line
abbrev pub table_in : RoadMap → Starts → ℕ → Option ℕ
table_in road starts = start_length road (length_of starts.nodes) (get nat_eq starts.own)
