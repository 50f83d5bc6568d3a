-- What the reader of a table has found before it compares the keys of the rows, and what it answers
-- then. This serves the reader's own contracts alone: the rules are in Table.antt and Faults.antt.
use Rattle.std.specs.Prelude.{◌≡◌, ℕ, ◌+◌, ◌≤◌, List, [], ◌∷◌, ◌++◌, length, Option, Some, None, Contains}
use Rattle.std.specs.List.{AllZip}
use Rattle.olr_base.specs.Checks.{AllPass, EachFault, Refuses}
use Rattle.olr_records.specs.declared.file.File.{File}
use Rattle.olr_index.specs.Repeats.{AllDiffer, IsFirstRepeat}
use Rattle.olr_map.specs.declared.fault.MapFault.{MapFault}
use Rattle.olr_map.specs.declared.fault.MapFault.TheVariants.{Duplicate, NoMemory}
use Rattle.olr_map.specs.declared.table.Stop.{Stop}
use Rattle.olr_map.specs.Table.{Table, keys_of, fields_of, checks_of}
use Rattle.olr_map.specs.Files.{file_of, IsOfText}

-- each record spells a row, whatever its key, and there are not too many
pub record SpellRows {Row : Type 0} (table : Table Row) (records : List (List (List ℕ)))
    (rows : List Row) : Type 0 where
  pub each : AllZip table.IsRow records rows
  pub at_most : length rows ≤ table.most

-- the key of a record, if it was read, is among these
abbrev pub IsAmong : Option ℕ → List ℕ → Type 0
IsAmong None keys = ⊥
IsAmong (Some key) keys = Contains keys key

-- The record after these rows is refused: as a duplicate, if its key was read and is that of a row,
-- and else for the fault of the stop.
pub record StopsAfter {Row : Type 0} (table : Table Row) (rows : List Row) (fields : List (List ℕ))
    (stop : Stop) : Type 0 where
  pub repeats : IsAmong stop.key (keys_of table rows)
      → Refuses (checks_of table (keys_of table rows) fields)
      (Duplicate table.file (length (keys_of table rows) + 1))
  pub new : (IsAmong stop.key (keys_of table rows) → ⊥)
      → Refuses (checks_of table (keys_of table rows) fields) stop.fault

-- the row of a record was added to those before it
pub record AddsRow {Row : Type 0} (table : Table Row) (fields : List (List ℕ))
    (old new : List Row) : Type 0 where
  pub row : Row
  pub is : table.IsRow fields row
  pub rows : new ≡ old ++ row ∷ []

-- the record is refused, and the rows are those before it
pub record StopsAt {Row : Type 0} (table : Table Row) (fields : List (List ℕ)) (old new : List Row)
    (stop : Stop) : Type 0 where
  pub rows : new ≡ old
  pub stops : StopsAfter table old fields stop

-- the records before the one at which the reader stopped spell rows
pub record StopsIn {Row : Type 0} (table : Table Row) (records : List (List (List ℕ)))
    (rows : List Row) (stop : Stop) : Type 0 where
  pub good : List (List (List ℕ))
  pub bad : List (List ℕ)
  pub rest : List (List (List ℕ))
  pub split : records ≡ good ++ bad ∷ rest
  pub spelled : SpellRows table good rows
  pub stops : StopsAfter table rows bad stop

-- keys, followed by that of the record at which the reader stopped, if it was read
abbrev pub with_last : List ℕ → Option ℕ → List ℕ
with_last keys None = keys
with_last keys (Some key) = keys ++ key ∷ []

-- the same, where the reader may have stopped nowhere
abbrev pub keys_read : List ℕ → Option Stop → List ℕ
keys_read keys None = keys
keys_read keys (Some stop) = with_last keys stop.key

-- The fault of rows with these keys: no memory is left, or the first key that occurs twice decides,
-- or there is none and the stop does.
pub data Settles (keys : List ℕ) (stop : Option Stop) (file : File) (fault : MapFault) : Type 0
  where
    no_memory : fault ≡ NoMemory → Settles keys stop file fault
    repeat : (place : ℕ) → IsFirstRepeat (keys_read keys stop) place
        → fault ≡ Duplicate file (place + 1) → Settles keys stop file fault
    stopped : (its : Stop) → stop ≡ Some its → AllDiffer (with_last keys its.key)
        → fault ≡ its.fault
        → Settles keys stop file fault

-- the fault lies in the text of this file
abbrev pub IsOfFile : File → MapFault → Type 0
IsOfFile file why = IsOfText why × (file_of why ≡ Some file)

-- What makes the reader's way of finding the first fault right: a record that spells a row passes
-- the checks on its fields, and repeats an earlier one where an earlier row has its key; and what
-- the file's own checks report lies in its text.
pub record IsSettled {Row : Type 0} (table : Table Row) : Type 0 where
  pub pass : (fields : List (List ℕ)) (row : Row) → table.IsRow fields row → (n : ℕ)
      → AllPass (fields_of table n fields)
  pub repeats : (before : List ℕ) (fields : List (List ℕ)) (row : Row) → table.IsRow fields row
      → Contains before (table.key row) → table.Repeats before fields
  pub within : (n : ℕ) (fields : List (List ℕ))
      → EachFault (IsOfFile table.file) (table.later n fields)
