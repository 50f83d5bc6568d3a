-- The faults of the three files: what the columns of a record have to spell, which records repeat
-- an earlier one, and the checks that one file makes and the others don't. What all files check,
-- and in which order, is in Table.antt.
use Rattle.std.specs.Prelude.{ℕ, ◌⊎◌, List, [], ◌∷◌, Contains}
use Rattle.olr_base.specs.Checks.{Check, forbids}
use Rattle.olr_base.specs.Coordinates.{Coordinates}
use Rattle.olr_records.specs.Fields.{IsId, IsKind, IsLength, SpellsLongitude, SpellsLatitude}
use Rattle.olr_records.specs.Shape.{IsShape}
use Rattle.olr_road.specs.declared.ban.Ban.{Ban}
use Rattle.olr_map.specs.declared.fault.MapFault.{MapFault}
use Rattle.olr_map.specs.declared.fault.MapFault.TheVariants.{UnknownNode, ZeroLength, Degenerate, UnknownLine, NotAdjacent}
use Rattle.olr_map.specs.Rows.{SpellsAt, HasValue, ArePoints, NamesLines}
use Rattle.olr_road.specs.RoadMap.{Node, node_ids, RoadLine, line_ids, HasEqualNeighbours, ban_key, IsAdjacent}

-- ---- the columns of a record, each of which has to have a value

abbrev pub node_columns : List (List ℕ) → List (Type 0)
node_columns fields = HasValue IsId fields 0 ∷ HasValue SpellsLongitude fields 1
    ∷ HasValue SpellsLatitude fields 2 ∷ []

abbrev pub line_columns : List (List ℕ) → List (Type 0)
line_columns fields = HasValue IsId fields 0 ∷ HasValue IsId fields 1 ∷ HasValue IsId fields 2
    ∷ HasValue IsKind fields 3
    ∷ HasValue IsKind fields 4 ∷ HasValue IsLength fields 5 ∷ HasValue IsShape fields 6 ∷ []

abbrev pub ban_columns : List (List ℕ) → List (Type 0)
ban_columns fields = HasValue IsId fields 0 ∷ HasValue IsId fields 1 ∷ []

-- ---- what a record repeats

-- the id in a record's first field is among those of earlier records
abbrev pub IsRepeated : List ℕ → List (List ℕ) → Type 0
IsRepeated before fields = (id : ℕ) × SpellsAt IsId fields 0 id × Contains before id

-- the two lines that a record names are those of an earlier ban
abbrev pub IsRepeatedBan : List RoadLine → List ℕ → List (List ℕ) → Type 0
IsRepeatedBan lines before fields = (ban : Ban) × NamesLines lines fields ban
    × Contains before (ban_key ban)

-- ---- what else makes a record faulty

-- this field spells an id that no node has
abbrev pub IsUnknown : List Node → List (List ℕ) → ℕ → Type 0
IsUnknown nodes fields index = (id : ℕ) × SpellsAt IsId fields index id
    × (Contains (node_ids nodes) id → ⊥)

-- a record of the file of lines names a node that there isn't
abbrev pub HasUnknownEnd : List Node → List (List ℕ) → Type 0
HasUnknownEnd nodes fields = IsUnknown nodes fields 1 ⊎ IsUnknown nodes fields 2

-- two neighbouring points that it gives its line are equal
abbrev pub IsDegenerate : List Node → List (List ℕ) → Type 0
IsDegenerate nodes fields = (from to : ℕ) × (points : List Coordinates)
    × ArePoints nodes fields from to points × HasEqualNeighbours points

-- this field spells an id that no line has
abbrev pub IsUnknownLine : List RoadLine → List (List ℕ) → ℕ → Type 0
IsUnknownLine lines fields index = (id : ℕ) × SpellsAt IsId fields index id
    × (Contains (line_ids lines) id → ⊥)

-- a record of the file of bans names a line that there isn't
abbrev pub NamesUnknownLine : List RoadLine → List (List ℕ) → Type 0
NamesUnknownLine lines fields = IsUnknownLine lines fields 0 ⊎ IsUnknownLine lines fields 1

-- it names two lines that don't meet
abbrev pub NamesApart : List RoadLine → List (List ℕ) → Type 0
NamesApart lines fields = (ban : Ban) × NamesLines lines fields ban × (IsAdjacent lines ban → ⊥)

-- ---- the checks of one file alone, in their order; this is record n

-- of the file of lines, on nodes by rising id
abbrev pub line_checks : List Node → ℕ → List (List ℕ) → List (Check MapFault)
line_checks nodes n fields =
    forbids (HasUnknownEnd nodes fields) (UnknownNode n)
    ∷ forbids (SpellsAt IsLength fields 5 0) (ZeroLength n)
    ∷ forbids (IsDegenerate nodes fields) (Degenerate n)
    ∷ []

-- of the file of bans, on lines by rising id
abbrev pub ban_checks : List RoadLine → ℕ → List (List ℕ) → List (Check MapFault)
ban_checks lines n fields =
    forbids (NamesUnknownLine lines fields) (UnknownLine n)
    ∷ forbids (NamesApart lines fields) (NotAdjacent n)
    ∷ []
