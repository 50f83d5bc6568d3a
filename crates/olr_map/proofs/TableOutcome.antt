-- A text of a table has rows, or a fault: it can't be that it has neither.
use Rattle.olr_map.proofs.Common.{AllPass, AllDiffer, MapFault, IsSettled, Table, keys_of, fields_of, others_of, checks_of, AreRows, IsTableOf, RefusesRecord, IsFaultOfTable, ◌≡◌, ℕ, ◌+◌, ◌<◌, List, [], ◌∷◌, ◌++◌, length, refl, sym, ◌∙◌, append_assoc, inl, inr, arith, Contains, cases_lt, append-nil, length-append, map-append, get_or_append_left, get_or_push, get_or_default, Passes, zip_push}
use Rattle.olr_base.proofs.Checks.{decided as passes_or_fails, each_in_front, each_behind}
use Rattle.olr_map.specs.declared.fault.MapFault.TheVariants.{Header}
use Rattle.olr_map.proofs.Checked.{keys_length}
use Rattle.olr_map.proofs.Sorting.{sorted_rows}

-- A record that passes the checks on its fields and those of its file spells a row.
abbrev pub IsDecided : {Row : Type 0} → Table Row → Type 0
IsDecided {Row} table = (n : ℕ) (fields : List (List ℕ)) → AllPass (fields_of table n fields)
    → AllPass (table.later n fields) → ((row : Row) → table.IsRow fields row → ⊥) → ⊥

-- one key more, which is new
differ_more : (keys : List ℕ) (last : ℕ) → AllDiffer keys → (Contains keys last → ⊥)
    → AllDiffer (keys ++ last ∷ [])
differ_more keys last differ new i j d less inside same = elim (cases_lt j (length keys)) [
  | inl low ↦ differ i j d less low (cc (
    get_or_append_left keys (last ∷ []) d i (omega arith),
    get_or_append_left keys (last ∷ []) d j low,
  ))
  | inr high ↦
      let here : length keys ≡ j = omega (arith, length-append keys (last ∷ [])) in
      let first : i < length keys = omega arith in
      new (
        i,
        first,
        get_or_default keys i last d first
            ∙ sym (get_or_append_left keys (last ∷ []) d i first) ∙ same ∙ get_or_push _ _ d j here,
      )
]

module _ {Row : Type 0} (table : Table Row) (settled : IsSettled table) (decided : IsDecided table)
  where
    one_more : (good : List (List (List ℕ))) (rows : List Row) (fields : List (List ℕ)) (row : Row)
        → AreRows table good rows → table.IsRow fields row
        → length (keys_of table rows) < table.most
        → (Contains (keys_of table rows) (table.key row) → ⊥)
        → AreRows table (good ++ fields ∷ []) (rows ++ row ∷ [])
    one_more good rows fields row are is room new = record {
      each = zip_push _ _ _ _ _ are.each is;
      at_most = omega (arith, keys_length table rows, length-append rows (row ∷ []));
      differ = rw (map-append table.key rows (row ∷ [])) (differ_more _ _ are.differ new);
    }

    records_outcome : (good rest : List (List (List ℕ))) (rows : List Row) → AreRows table good rows
        → ((all : List Row) → AreRows table (good ++ rest) all → ⊥)
        → ((why : MapFault) → RefusesRecord table (good ++ rest) why → ⊥) → ⊥
    records_outcome good [] rows are no_rows no_fault = no_rows rows (rw (append-nil good) are)
    records_outcome good (bad ∷ rest) rows are no_rows no_fault =
        let before = keys_of table rows in
        let front = fields_of table (length before + 1) bad in
        let others = others_of table before bad in
        passes_or_fails (checks_of table before bad) (λ why refuses. no_fault why (record {
          good = good;
          bad = bad;
          rest = rest;
          rows = rows;
          split = refl;
          accepted = are;
          refused = refuses;
        })) (λ pass. let behind = each_behind Passes front others pass.1 in
        decided _ bad (each_in_front Passes front others pass.1) behind.1
        (λ row is. records_outcome (good ++ bad ∷ []) rest (rows ++ row ∷ [])
        (one_more _ _ _ _ are is pass.0
        (λ among. behind.0 (settled.repeats before bad row is among)))
        (λ all its. no_rows all (rw (← (append_assoc good (bad ∷ []) rest)) its))
        (λ why its. no_fault why (rw (← (append_assoc good (bad ∷ []) rest)) its))))

    pub table_outcome : (text : List ℕ) → ((sorted : List Row) → IsTableOf table text sorted → ⊥)
        → ((why : MapFault) → IsFaultOfTable table text why → ⊥) → ⊥
    table_outcome text no_rows no_fault = no_fault (Header table.file) (inl (
      refl,
      λ records is. records_outcome [] _ [] (record {
        each = tt;
        at_most = omega arith;
        differ = λ i j d less inside. absurd (omega arith);
      }) (λ rows are. let sorted = sorted_rows _ _ are.differ in
          no_rows sorted.0 (
            rows,
            record { records = records; file = is; accepted = are },
            sorted.1,
          )) (λ why refuses. no_fault why (inr (records, is, refuses))),
    ))
