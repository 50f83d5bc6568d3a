-- What sources and single records are found to be while they are read. This serves the readers' own
-- contracts alone: the rules stand in the other files.
use Rattle.std.specs.Prelude.{◌≡◌, ℕ, ◌⊎◌, ⊤, MatchOption, Option, Some, None, IfSome, Contains, List, length}
use Rattle.olr_records.specs.declared.file.File.{File}
use Rattle.olr_records.specs.declared.file.File.TheVariants.{Nodes, Lines, Bans}
use Rattle.olr_map.specs.declared.fault.MapFault.{MapFault}
use Rattle.olr_map.specs.declared.fault.MapFault.TheVariants as fault
use Rattle.olr_base.specs.Checks.{Refuses}
use Rattle.olr_base.specs.Coordinates.{Coordinates, coordinates_of}
use Rattle.olr_base.specs.Counting.{one_more}
use Rattle.olr_road.specs.declared.ban.Ban.{Ban}
use Rattle.olr_map.specs.declared.lines.Ends.{Ends}
use Rattle.olr_map.specs.declared.table.Stop.{Stop}
use Rattle.olr_map.specs.declared.rows.LineRow.{LineRow}
use Rattle.olr_map.specs.declared.rows.RowError.{RowError}
use Rattle.olr_map.specs.declared.rows.RowError.TheVariants.{Shape, Column}
use Rattle.olr_records.specs.Fields.{IsId, IsKind, IsLength}
use Rattle.olr_records.specs.Shape.{IsShape}
use Rattle.olr_map.specs.Rows.{node_header, line_header, ban_header, SpellsAt, IsNodeAt, NamesLines}
use Rattle.olr_road.specs.RoadMap.{Node, node_ids, RoadLine, ban_key, IsAdjacent}
use Rattle.olr_map.specs.Faults.{node_columns, line_columns, ban_columns, line_checks, NamesUnknownLine}
use Rattle.olr_map.specs.Table.{field_checks}

-- ---- any file

-- what reading one source to its end may answer in place of its rows
abbrev pub IsReadFault : MapFault → ℕ → ℕ → MapFault → Type 0
IsReadFault failed old new fault.NoMemory = new ≡ old
IsReadFault failed old new other = (other ≡ failed) × (new ≡ one_more old)

-- Either memory was refused, or `Is` holds of the fault. No failure of a source is reported.
abbrev pub Reports : (MapFault → Type 0) → MapFault → Type 0
Reports Is fault.NoMemory = ⊤
Reports Is (fault.ReadFailed file) = ⊥
Reports Is other = Is other

-- this holds of some text, which is the one that a source has left, where it is known
abbrev pub HasText : Option (List ℕ) → (List ℕ → Type 0) → Type 0
HasText left Is = (text : List ℕ) × IfSome left (λ given. text ≡ given) × Is text

-- ---- the records of each file, one by one

-- the fault for which a record with an error is refused
abbrev pub fault_of : RowError → File → ℕ → MapFault
fault_of Shape file n = fault.Shape file n
fault_of (Column column) file n = fault.Field file n column

-- the error of a record of the file of nodes, of lines, or of bans: that of the first check that
-- its fields fail
abbrev pub IsNodeError : List (List ℕ) → RowError → Type 0
IsNodeError fields error = (n : ℕ)
    → Refuses (field_checks Nodes node_header (node_columns fields) n fields)
    (fault_of error Nodes n)

abbrev pub IsLineError : List (List ℕ) → RowError → Type 0
IsLineError fields error = (n : ℕ)
    → Refuses (field_checks Lines line_header (line_columns fields) n fields)
    (fault_of error Lines n)

abbrev pub IsBanError : List (List ℕ) → RowError → Type 0
IsBanError fields error = (n : ℕ)
    → Refuses (field_checks Bans ban_header (ban_columns fields) n fields) (fault_of error Bans n)

-- the numbers of a line that a record spells
pub record SpellsNumbers (fields : List (List ℕ)) (row : LineRow) : Type 0 where
  pub seven : length fields ≡ length line_header
  pub id : SpellsAt IsId fields 0 row.id
  pub from : SpellsAt IsId fields 1 row.from
  pub to : SpellsAt IsId fields 2 row.to
  pub class : SpellsAt IsKind fields 3 row.class
  pub form : SpellsAt IsKind fields 4 row.form
  pub size : SpellsAt IsLength fields 5 row.length

-- and its shape
pub record SpellsLine (fields : List (List ℕ)) (shape : List Coordinates) (row : LineRow) : Type 0
  where
    pub numbers : SpellsNumbers fields row
    pub between : SpellsAt IsShape fields 6 shape

-- the nodes at which a row's line starts and ends
pub record AreEnds (nodes : List Node) (row : LineRow) (ends : Ends) : Type 0 where
  pub from : IsNodeAt nodes row.from ends.from (coordinates_of ends.first)
  pub to : IsNodeAt nodes row.to ends.to (coordinates_of ends.last)

-- these are they, or one of them is no node
abbrev pub HasEnds : List Node → LineRow → Option Ends → Type 0
HasEnds nodes row ends = MatchOption ends ((Contains (node_ids nodes) row.from → ⊥)
    ⊎ (Contains (node_ids nodes) row.to → ⊥)) (AreEnds nodes row)

-- the ids of the two lines of a ban that a record spells
pub record SpellsIds (fields : List (List ℕ)) (first second : ℕ) : Type 0 where
  pub two : length fields ≡ length ban_header
  pub from : SpellsAt IsId fields 0 first
  pub to : SpellsAt IsId fields 1 second

-- ---- those of the file of lines

-- the fault of record n for which its row is no line on these nodes
abbrev pub IsLateFault : List Node → List (List ℕ) → ℕ → MapFault → Type 0
IsLateFault nodes fields n why = Refuses (line_checks nodes n fields) why

-- ---- the rows of the file of bans

-- the stop at a record whose key wasn't read, or was
abbrev pub stop_at : MapFault → Option ℕ → Stop
stop_at why key = record { fault = why; key = key }

-- Why record n is no ban, and what its reader answers: it has an error, it names a line that isn't
-- there, or the lines that it names don't meet.
pub data StopsBan (lines : List RoadLine) (fields : List (List ℕ)) (n : ℕ) (stop : Stop) : Type 0
  where
    wrong_row : (error : RowError) → IsBanError fields error
        → stop ≡ stop_at (fault_of error Bans n) None → StopsBan lines fields n stop
    unknown : (first second : ℕ) → SpellsIds fields first second → NamesUnknownLine lines fields
        → stop ≡ stop_at (fault.UnknownLine n) None → StopsBan lines fields n stop
    apart : (ban : Ban) → length fields ≡ length ban_header → NamesLines lines fields ban
        → (IsAdjacent lines ban → ⊥)
        → stop ≡ stop_at (fault.NotAdjacent n) (Some (ban_key ban)) → StopsBan lines fields n stop
