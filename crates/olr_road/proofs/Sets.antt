-- The nodes and lines of which a road map is made: their ids, the ranks at which they stand, and
-- that sorting them sorts the nodes and lines of the map.
use Rattle.std.proofs.lemmas.Simd.{map-map}
use Rattle.olr_road.proofs.Common.{Degrees, Entry, Node, node_ids, RoadLine, line_ids, IsSoundLine, Sorts, starts_of, ends_of, nodes_of, line_in, lines_in, entry_id, ◌≡◌, ℕ, zero, suc, ◌<◌, List, [], ◌∷◌, map, length, get_or, sym, arith, Option, Some, None, MatchOption, All, slice_get, All-head, All-tail, IsPermutation-map, origins_of, destinations_of, node_key}
use Rattle.olr_road.specs.declared.node.Node.{Node as NodeByRank}

pub ids_of_rows : (rows : List NodeByRank)
    → node_ids (nodes_of rows) ≡ map (λ (row : NodeByRank). row.id) rows
ids_of_rows rows = map-map _ _ _

pub ids_of_entries : (points : List Degrees) (entries : List Entry)
    → line_ids (lines_in points entries) ≡ map (λ (entry : Entry). entry.line.id) entries
ids_of_entries points entries = map-map _ _ _

pub starts_of_entries : (points : List Degrees) (entries : List Entry)
    → starts_of entries ≡ origins_of (lines_in points entries)
starts_of_entries points entries = sym (map-map _ _ _)

pub ends_of_entries : (points : List Degrees) (entries : List Entry)
    → ends_of entries ≡ destinations_of (lines_in points entries)
ends_of_entries points entries = sym (map-map _ _ _)

-- a line of the map is that of an entry
pub entry_at : (points : List Degrees) (entries : List Entry) (rank : ℕ) (line : RoadLine)
    → slice_get (lines_in points entries) rank ≡ Some line
    → (entry : Entry) × (slice_get entries rank ≡ Some entry) × (line_in points entry ≡ line)
entry_at points [] rank line is = absurd cc
entry_at points (entry ∷ entries) zero line is = grind arith
entry_at points (entry ∷ entries) (suc rank) line is = entry_at points entries rank line is

-- nodes by rank that are sorted by id are nodes of the map sorted by id, and so with lines
pub sorted_nodes : (old new : List NodeByRank) → Sorts node_key old new
    → Sorts (λ (node : Node). node.id) (nodes_of old) (nodes_of new)
sorted_nodes old new sorts = grind (arith, IsPermutation-map, ids_of_rows)

pub sorted_lines : (points : List Degrees) (old new : List Entry) → Sorts entry_id old new
    → Sorts (λ (line : RoadLine). line.id) (lines_in points old) (lines_in points new)
sorted_lines points old new sorts = grind (arith, IsPermutation-map, ids_of_entries)

-- ---- what the tables of a map rest on

-- each line starts at one of the nodes, and ends at one of them
nodes_known : (node_at : Entry → ℕ) (nodes : ℕ) (points : List Degrees)
    → ((entry : Entry) → IsSoundLine nodes (line_in points entry) → node_at entry < nodes)
    → (entries : List Entry) → All (IsSoundLine nodes) (lines_in points entries) → (i : ℕ)
    → i < length (map node_at entries) → get_or (map node_at entries) i 0 < nodes
nodes_known node_at nodes points known [] sound i inside = absurd (omega arith)
nodes_known node_at nodes points known (entry ∷ entries) sound zero inside = grind (arith, All-head)
nodes_known node_at nodes points known (entry ∷ entries) sound (suc i) inside =
    nodes_known _ _ _ known entries (All-tail (IsSoundLine nodes) (line_in points entry) _ sound) i
    (omega arith)

module _ (nodes : ℕ) (points : List Degrees) (entries : List Entry)
    (sound : All (IsSoundLine nodes) (lines_in points entries)) where
  pub starts_known : (i : ℕ) → i < length (starts_of entries)
      → get_or (starts_of entries) i 0 < nodes
  starts_known = nodes_known _ _ _ (λ entry is. is.from) _ sound

  pub ends_known : (i : ℕ) → i < length (ends_of entries) → get_or (ends_of entries) i 0 < nodes
  ends_known = nodes_known _ _ _ (λ entry is. is.to) _ sound

-- of a first repeat or of sorted rows, what follows from it
pub option_cases : {X : Type 0} (A C : Type 0) {B D : X → Type 0} (o : Option X) → MatchOption o A B
    → (A → C) → ((x : X) → B x → D x) → MatchOption o C D
option_cases A C None fact none some = none fact
option_cases A C (Some x) fact none some = some x fact
