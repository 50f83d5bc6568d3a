-- A file of a map as a table: a header, and behind it records, each of which spells one row. The
-- nodes, the lines and the bans are three tables; what holds of all is defined here once.
use Rattle.std.specs.Prelude.{◌≡◌, ℕ, suc, ◌+◌, ◌<◌, ◌≤◌, ◌⊎◌, List, [], ◌∷◌, ◌++◌, length, map}
use Rattle.std.specs.List.{AllZip}
use Rattle.olr_base.specs.Checks.{Check, needs, forbids, Refuses}
use Rattle.olr_records.specs.declared.file.File.{File}
use Rattle.olr_records.specs.Records.{records_of}
use Rattle.olr_index.specs.Repeats.{AllDiffer, Sorts}
use Rattle.olr_map.specs.declared.fault.MapFault.{MapFault}
use Rattle.olr_map.specs.declared.fault.MapFault.TheVariants.{Header, TooMany, Shape, Field, Duplicate}

-- What makes a table. No two rows have one key, and rows are sorted by it; a pair of numbers can be
-- a key, too, packed into one number. `columns` says of each column of a record that it has a
-- value, `Repeats` that a record has the key of an earlier row, given the keys of the rows before
-- it. `later` has the checks on record n that only this file makes.
pub record Table (Row : Type 0) : Type 1 where
  pub file : File
  pub header : List (List ℕ)
  pub most : ℕ
  pub key : Row → ℕ
  pub IsRow : List (List ℕ) → Row → Type 0
  pub columns : List (List ℕ) → List (Type 0)
  pub Repeats : List ℕ → List (List ℕ) → Type 0
  pub later : ℕ → List (List ℕ) → List (Check MapFault)

-- ---- the checks on a record

-- each of these columns of record n has a value; the first of them has this number
abbrev pub column_checks : File → ℕ → ℕ → List (Type 0) → List (Check MapFault)
column_checks file n column [] = []
column_checks file n column (HasValue ∷ columns) =
    needs HasValue (Field file n column) ∷ column_checks file n (suc column) columns

-- record n has as many fields as the header, and each of its columns has a value; columns are
-- counted from 1
abbrev pub field_checks : File → List (List ℕ) → List (Type 0) → ℕ → List (List ℕ)
    → List (Check MapFault)
field_checks file header columns n fields =
    needs (length fields ≡ length header) (Shape file n) ∷ column_checks file n 1 columns

-- the checks on the fields of record n of a table
abbrev pub fields_of : {Row : Type 0} → Table Row → ℕ → List (List ℕ) → List (Check MapFault)
fields_of table n fields = field_checks table.file table.header (table.columns fields) n fields

-- those behind them: its key is new, and what only this file checks
abbrev pub others_of : {Row : Type 0} → Table Row → List ℕ → List (List ℕ) → List (Check MapFault)
others_of table before fields =
    forbids (table.Repeats before fields) (Duplicate table.file (length before + 1))
    ∷ table.later (length before + 1) fields

-- The checks on a record, in their order: there is room for it, then its fields, then the others.
-- `before` holds the keys of the rows before it, one of each record, so that this record is number
-- `length before + 1`: records are counted from 1 behind the header.
abbrev pub checks_of : {Row : Type 0} → Table Row → List ℕ → List (List ℕ) → List (Check MapFault)
checks_of table before fields = needs (length before < table.most) (TooMany table.file)
    ∷ fields_of table (length before + 1) fields ++ others_of table before fields

-- ---- its rows, and its fault

-- the keys of rows
abbrev pub keys_of : {Row : Type 0} → Table Row → List Row → List ℕ
keys_of table rows = map table.key rows

-- the rows that records spell, one for each record, in the order of the records; none of the
-- records is faulty
pub record AreRows {Row : Type 0} (table : Table Row) (records : List (List (List ℕ)))
    (rows : List Row) : Type 0 where
  pub each : AllZip table.IsRow records rows
  pub at_most : length rows ≤ table.most
  pub differ : AllDiffer (keys_of table rows)

-- the rows of a text, in the order of its records
pub record AreRowsOf {Row : Type 0} (table : Table Row) (text : List ℕ) (rows : List Row) : Type 0
  where
    pub records : List (List (List ℕ))
    pub file : records_of text ≡ table.header ∷ records
    pub accepted : AreRows table records rows

-- the rows of a text, by rising key
abbrev pub IsTableOf : {Row : Type 0} → Table Row → List ℕ → List Row → Type 0
IsTableOf {Row} table text sorted = (rows : List Row) × AreRowsOf table text rows
    × Sorts table.key rows sorted

-- the first faulty one of the records, and the fault of the first check that it fails
pub record RefusesRecord {Row : Type 0} (table : Table Row) (records : List (List (List ℕ)))
    (fault : MapFault) : Type 0 where
  pub good : List (List (List ℕ))
  pub bad : List (List ℕ)
  pub rest : List (List (List ℕ))
  pub rows : List Row
  pub split : records ≡ good ++ bad ∷ rest
  pub accepted : AreRows table good rows
  pub refused : Refuses (checks_of table (keys_of table rows) bad) fault

-- the first record of a file isn't this header, or there is none
abbrev pub LacksHeader : List (List ℕ) → List (List (List ℕ)) → Type 0
LacksHeader header all = (records : List (List (List ℕ))) → all ≡ header ∷ records → ⊥

-- the fault of a text
abbrev pub IsFaultOfTable : {Row : Type 0} → Table Row → List ℕ → MapFault → Type 0
IsFaultOfTable table text fault =
    ((fault ≡ Header table.file) × LacksHeader table.header (records_of text))
    ⊎ ((records : List (List (List ℕ))) × (records_of text ≡ table.header ∷ records)
    × RefusesRecord table records fault)
