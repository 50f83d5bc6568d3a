-- The outcome of a table's file: its rows, or the fault of the first record that is faulty.
use Rattle.std.proofs.Math.Seq.{take-append_seam}
use Rattle.olr_map.proofs.Common.{Refuses, AllDiffer, Sorts, Stop, MapFault, Table, keys_of, checks_of, IsTableOf, RefusesRecord, IsFaultOfTable, IsSettled, Settles, repeat, stopped, Reports, rules, ◌≡◌, ℕ, suc, ◌+◌, ◌<◌, ◌≤◌, List, [], ◌∷◌, ◌++◌, length, take, drop, inl, inr, Option, Some, None, refl, sym, subst, ◌∙◌, append_assoc, arith, slice_index, Contains, MatchOption, take-map, cases_lt, length-append, get_or-map, get_or_append_left, get_or_push, length-take-le, append-nil, take-append-le, records_of, sorts_differ, SpellRows, IsAmong, StopsIn, with_last, keys_read, no_memory, zip_take, zip_at}
use Rattle.olr_index.specs.Repeats.{IsFirstRepeat}
use Rattle.olr_map.specs.declared.fault.MapFault.TheVariants as fault
use Rattle.olr_map.proofs.Checked.{keys_length, refuses_repeat, reports, refused_of_text}

-- the first record whose key an earlier one has, among those that spell rows
repeated : {Row : Type 0} {table : Table Row} → IsSettled table
    → {records good : List (List (List ℕ))} (more : List (List (List ℕ))) {rows : List Row} {at : ℕ}
    → records ≡ good ++ more → SpellRows table good rows → IsFirstRepeat (keys_of table rows) at
    → RefusesRecord table records (fault.Duplicate table.file (at + 1))
repeated {Row} {table} settled {good} more {rows} {at} file say first =
    let size = keys_length table rows in
    let inside : at < length rows = omega arith in
    let found = zip_at table.IsRow good rows at say.each inside in
    let key : slice_index (keys_of table rows) at ≡ table.key found.right =
    cc (get_or-map table.key rows at found.right 0 inside, found.there found.right) in
    let front = length-take-le at rows (omega arith) in
    let keys : keys_of table (take at rows) ≡ take at (keys_of table rows) =
    sym (take-map table.key at rows) in
    let count = keys_length table (take at rows) ∙ front in
    let refused = refuses_repeat table (keys_of table (take at rows)) found.left settled found.right
    found.holds (omega arith) (rw keys (rw (← key) first.repeats)) in
    record {
      good = take at good;
      bad = found.left;
      rest = drop (suc at) good ++ more;
      rows = take at rows;
      split = cc (append_assoc (take at good) (found.left ∷ drop (suc at) good) more);
      accepted = record {
        each = zip_take table.IsRow good rows at say.each;
        at_most = omega arith;
        differ = rw keys first.before;
      };
      refused = subst (λ (n : ℕ). Refuses
          (checks_of table (keys_of table (take at rows)) found.left)
          (fault.Duplicate table.file (n + 1))) count refused;
    }

-- ---- keys, and one after them

-- a key among those before the last one
earlier_repeat : (keys : List ℕ) (last at : ℕ) → at < length keys
    → IsFirstRepeat (keys ++ last ∷ []) at → IsFirstRepeat keys at
earlier_repeat keys last at inside first = grind (arith, take-append-le, get_or_append_left)

-- the last key is one of those before it
pub record LastRepeats (keys : List ℕ) (last at : ℕ) : Type 0 where
  pub here : at ≡ length keys
  pub differ : AllDiffer keys
  pub among : Contains keys last

last_repeat : (keys : List ℕ) (last at : ℕ) → length keys ≤ at
    → IsFirstRepeat (keys ++ last ∷ []) at → LastRepeats keys last at
last_repeat keys last at behind first =
    let here : at ≡ length keys = omega (arith, length-append keys (last ∷ [])) in
    let front : take at (keys ++ last ∷ []) ≡ keys = cc (take-append_seam keys (last ∷ [])) in
    let key = get_or_push _ _ 0 _ (sym here) in
    record {
      here = here;
      differ = rw (← front) first.before;
      among = subst (λ (l : List ℕ). Contains l last) front
          (subst (λ (n : ℕ). Contains (take at (keys ++ last ∷ [])) n) key first.repeats);
    }

differ_front : (keys more : List ℕ) → AllDiffer (keys ++ more) → AllDiffer keys
differ_front keys more differ i j d less inside same =
    grind (arith, differ, length-append, get_or_append_left)

-- the last of keys that differ isn't one of those before it
last_new : (keys : List ℕ) (last : ℕ) → AllDiffer (keys ++ last ∷ []) → Contains keys last → ⊥
last_new keys last differ among =
    differ _ _ last among.1 (omega (arith, length-append keys (last ∷ [])))
    (cc (get_or_append_left keys (last ∷ []) last among.0 among.1, get_or_push keys _ last _ refl))

-- the same of a key that may not have been read
front_differs : (keys : List ℕ) (last : Option ℕ) → AllDiffer (with_last keys last) → AllDiffer keys
front_differs keys None differ = differ
front_differs keys (Some last) differ = differ_front _ _ differ

not_among : (keys : List ℕ) (last : Option ℕ) → AllDiffer (with_last keys last) → IsAmong last keys
    → ⊥
not_among keys None differ among = among
not_among keys (Some last) differ among = last_new _ _ differ among

-- ---- the fault that decides

-- the record at which the reader stopped is the first that is faulty
refuses_there : {Row : Type 0} (table : Table Row) (records : List (List (List ℕ)))
    (rows : List Row) (stop : Stop) (why : MapFault) (stops : StopsIn table records rows stop)
    → AllDiffer (keys_of table rows) → Refuses (checks_of table (keys_of table rows) stops.bad) why
    → RefusesRecord table records why
refuses_there table records rows stop why stops differ refuses = search rules

-- the first key that occurs twice, where the reader stopped
repeat_before : {Row : Type 0} {table : Table Row} → IsSettled table
    → {records : List (List (List ℕ))} {rows : List Row} {why : MapFault} (key : Option ℕ) {at : ℕ}
    → StopsIn table records rows (record { fault = why; key = key })
    → IsFirstRepeat (with_last (keys_of table rows) key) at
    → RefusesRecord table records (fault.Duplicate table.file (at + 1))
repeat_before settled None stops first = repeated settled _ stops.split stops.spelled first
repeat_before {table} settled {records} {rows} (Some key) {at} stops first =
    elim (cases_lt at (length (keys_of table rows))) [
      | inl inside ↦ repeated settled _ stops.split stops.spelled
          (earlier_repeat _ _ _ inside first)
      | inr behind ↦
          let last = last_repeat _ _ _ behind first in
          rw last.here (refuses_there table records rows _ _ stops last.differ
          (stops.stops.repeats last.among))
    ]

-- the stop decides, where the keys differ
stop_decides : {Row : Type 0} (table : Table Row) → IsSettled table
    → (records : List (List (List ℕ))) (rows : List Row) (stop : Stop)
    → StopsIn table records rows stop → AllDiffer (with_last (keys_of table rows) stop.key)
    → Reports (RefusesRecord table records) stop.fault
stop_decides table settled records rows stop stops differ =
    let refuses = stops.stops.new (not_among _ _ differ) in
    reports (RefusesRecord table records) stop.fault
    (refused_of_text table settled (keys_of table rows) stops.bad stop.fault refuses)
    (refuses_there table records rows stop stop.fault stops
    (front_differs (keys_of table rows) stop.key differ) refuses)

repeat_decides : {Row : Type 0} (table : Table Row) → IsSettled table
    → (records : List (List (List ℕ))) (rows : List Row) (stop : Option Stop) (at : ℕ)
    → MatchOption stop (SpellRows table records rows) (StopsIn table records rows)
    → IsFirstRepeat (keys_read (keys_of table rows) stop) at
    → RefusesRecord table records (fault.Duplicate table.file (at + 1))
repeat_decides table settled records rows None at found first =
    repeated settled _ (sym (append-nil records)) found first
repeat_decides table settled records rows (Some stop) at found first =
    repeat_before settled _ found first

-- the fault of a table's records, by what the reader found and what its keys decide
pub fault_settled : {Row : Type 0} (table : Table Row) → IsSettled table
    → (records : List (List (List ℕ))) (rows : List Row) (stop : Option Stop) (keys : List ℕ)
    (why : MapFault) → keys ≡ keys_of table rows → MatchOption stop (SpellRows table records rows)
    (StopsIn table records rows) → Settles keys stop table.file why
    → Reports (RefusesRecord table records) why
fault_settled table settled records rows stop keys why same found (no_memory e) = rw e tt
fault_settled table settled records rows stop keys why same found (repeat at first e) =
    let here = subst (λ (l : List ℕ). IsFirstRepeat (keys_read l stop) at) same first in
    rw e (repeat_decides _ settled _ _ _ _ found here)
fault_settled table settled records rows stop keys why same found (stopped its is differ e) =
    grind (arith, differ, stop_decides)

-- ---- of a text

-- a fault after the header
after_header : {Row : Type 0} (table : Table Row) (text : List ℕ) (records : List (List (List ℕ)))
    (why : MapFault) → records_of text ≡ table.header ∷ records
    → Reports (RefusesRecord table records) why → Reports (IsFaultOfTable table text) why
after_header table text records (fault.ReadFailed file) is refuses = refuses
after_header table text records fault.NoMemory is refuses = refuses
after_header table text records other is refuses = inr (records, is, refuses)

pub text_fault : {Row : Type 0} (table : Table Row) → IsSettled table
    → (text : List ℕ) (records : List (List (List ℕ))) (rows : List Row) (stop : Option Stop)
    (keys : List ℕ) (why : MapFault)
    → records_of text ≡ table.header ∷ records → keys ≡ keys_of table rows
    → MatchOption stop (SpellRows table records rows) (StopsIn table records rows)
    → Settles keys stop table.file why → Reports (IsFaultOfTable table text) why
text_fault table settled text records rows stop keys why is same found settles =
    after_header _ _ _ _ is (fault_settled _ settled _ _ _ _ _ same found settles)

pub text_rows : {Row : Type 0} {table : Table Row} {text : List ℕ} {records : List (List (List ℕ))}
    {rows sorted : List Row} → records_of text ≡ table.header ∷ records
    → SpellRows table records rows → Sorts table.key rows sorted → IsTableOf table text sorted
text_rows {records} {rows} is say sorts = (
  rows,
  record {
    records = records;
    file = is;
    accepted = record { each = say.each; at_most = say.at_most; differ = sorts_differ _ _ _ sorts };
  },
  sorts,
)
