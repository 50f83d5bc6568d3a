-- The checks on a record of any table: which one the reader has found to fail, or that all pass.
use Rattle.olr_map.proofs.Common.{AllPass, Refuses, File, AllDiffer, MapFault, Table, keys_of, fields_of, others_of, checks_of, IsFaultOfTable, StopsAfter, IsSettled, Reports, ◌≡◌, ℕ, suc, ◌+◌, ◌<◌, List, [], ◌∷◌, ◌++◌, length, Some, None, refl, arith, Contains, length-append, length-map, get_or_append_left, get_or_at, get_or_default, EachFault, IsOfFile, fault_of, IsOfText}
use Rattle.olr_base.proofs.Checks.{each_of_both, refuses_behind, refuses_among, reported}
use Rattle.olr_map.specs.declared.fault.MapFault.TheVariants as fault
use Rattle.olr_map.specs.declared.rows.RowError.{RowError}
use Rattle.olr_map.specs.Table.{column_checks}

pub keys_length : {Row : Type 0} (table : Table Row) (rows : List Row)
    → length (keys_of table rows) ≡ length rows
keys_length table rows = length-map rows table.key

-- an id among ids that differ doesn't stand before itself
pub new_id : (before : List ℕ) (id : ℕ) (after : List ℕ) → AllDiffer (before ++ id ∷ after)
    → Contains before id → ⊥
new_id before id after differ contains =
    let size = length-append before (id ∷ after) in
    differ _ _ 0 contains.1 (omega arith) (cc (
      get_or_append_left before (id ∷ after) 0 contains.0 contains.1,
      get_or_default before contains.0 0 id contains.1,
      get_or_at before id after 0 (length before) refl,
    ))

-- ---- the first check that fails

module _ {Row : Type 0} (table : Table Row) (before : List ℕ) (fields : List (List ℕ)) where
  -- one on its fields
  refuses_field : (why : MapFault) → length before < table.most
      → Refuses (fields_of table (length before + 1) fields) why
      → Refuses (checks_of table before fields) why
  refuses_field why room refuses = grind (arith, refuses_among)

  -- one behind them
  refuses_other : (why : MapFault) → length before < table.most
      → AllPass (fields_of table (length before + 1) fields)
      → Refuses (others_of table before fields) why → Refuses (checks_of table before fields) why
  refuses_other why room pass refuses = grind (arith, refuses_behind)

  -- a record that spells a row is a duplicate, where an earlier row has its key
  pub refuses_repeat : IsSettled table → (row : Row) → table.IsRow fields row
      → length before < table.most → Contains before (table.key row)
      → Refuses (checks_of table before fields) (fault.Duplicate table.file (length before + 1))
  refuses_repeat settled row is room among = grind (arith, refuses_other)

-- ---- the record at which the reader stopped

module _ {Row : Type 0} (table : Table Row) (rows : List Row) (fields : List (List ℕ)) where
  -- at a record whose fields spell no row
  pub stops_at_error : {before : ℕ} (error : RowError) → length rows ≡ before → before < table.most
      → ((n : ℕ) → Refuses (fields_of table n fields) (fault_of error table.file n))
      → StopsAfter table rows fields (record {
        fault = fault_of error table.file (before + 1);
        key = None;
      })
  stops_at_error error size room is = grind (arith, keys_length, refuses_field)

  -- at one whose fields are as they have to be, and whose key was read
  pub stops_later : {before : ℕ} (key : ℕ) (why : MapFault) → length rows ≡ before
      → before < table.most → ((n : ℕ) → AllPass (fields_of table n fields))
      → (Contains (keys_of table rows) key → table.Repeats (keys_of table rows) fields)
      → (table.Repeats (keys_of table rows) fields → Contains (keys_of table rows) key)
      → Refuses (table.later (before + 1) fields) why
      → StopsAfter table rows fields (record { fault = why; key = Some key })
  stops_later key why size room pass repeats among later = grind (arith, keys_length, refuses_other)

  -- or wasn't
  pub stops_unread : {before : ℕ} (why : MapFault) → length rows ≡ before → before < table.most
      → ((n : ℕ) → AllPass (fields_of table n fields))
      → (table.Repeats (keys_of table rows) fields → ⊥)
      → Refuses (table.later (before + 1) fields) why
      → StopsAfter table rows fields (record { fault = why; key = None })
  stops_unread why size room pass never later = grind (arith, keys_length, refuses_other)

-- ---- the file of a fault

columns_of_file : (file : File) (n column : ℕ) (columns : List (Type 0))
    → EachFault (IsOfFile file) (column_checks file n column columns)
columns_of_file file n column [] = tt
columns_of_file file n column (has ∷ columns) =
    ((tt, refl), columns_of_file file n (suc column) columns)

refused_of_file : {Row : Type 0} (table : Table Row) → IsSettled table
    → (before : List ℕ) (fields : List (List ℕ)) (why : MapFault)
    → Refuses (checks_of table before fields) why → IsOfFile table.file why
refused_of_file table settled before fields why refuses =
    grind (arith, reported, each_of_both, columns_of_file)

-- a fault of a table's text lies in its file
pub of_file : {Row : Type 0} {table : Table Row} → IsSettled table
    → (text : List ℕ) {why : MapFault} → IsFaultOfTable table text why → IsOfFile table.file why
of_file settled text is = grind (arith, refused_of_file)

-- what holds of a fault that lies in a text is reported
pub reports : (Is : MapFault → Type 0) (why : MapFault) → IsOfText why → Is why → Reports Is why
reports Is (fault.ReadFailed file) of_text is = of_text
reports Is fault.NoMemory of_text is = tt
reports Is other of_text is = is

pub refused_of_text : {Row : Type 0} (table : Table Row) → IsSettled table
    → (before : List ℕ) (fields : List (List ℕ)) (why : MapFault)
    → Refuses (checks_of table before fields) why → IsOfText why
refused_of_text table settled before fields why refuses = grind (arith, refused_of_file)
