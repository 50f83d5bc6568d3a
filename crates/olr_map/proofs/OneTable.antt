-- The records of a table spell one list of rows, or have one first fault, and not both; and so it
-- is with a text.
use Rattle.olr_map.proofs.Common.{AllPass, Refuses, MapFault, AllDiffer, rising_differ, IsSettled, Table, keys_of, fields_of, others_of, checks_of, AreRows, IsTableOf, RefusesRecord, IsFaultOfTable, ◌≡◌, ℕ, suc, ◌+◌, List, ◌∷◌, ◌++◌, length, sym, ◌∙◌, subst, inl, inr, arith, Contains, AllZip, IsPermutation, length-append, map-append, IsPermutation-sym, IsPermutation-trans}
use Rattle.olr_base.proofs.Checks.{fault_once as first_once, none_refuses, each_of_both}
use Rattle.olr_map.proofs.Checked.{keys_length, new_id}
use Rattle.olr_map.proofs.Rising.{same_rising}
use Rattle.olr_map.proofs.Splits.{two_splits, one, before, behind, zip_split, zip_once}

-- What makes the laws of a table hold: a record spells one row at most; and one that spells a row
-- repeats an earlier one only where that has its key, and passes the checks of its file.
pub record IsLawful {Row : Type 0} (table : Table Row) : Type 0 where
  pub row_once : (fields : List (List ℕ)) (a b : Row) → table.IsRow fields a → table.IsRow fields b
      → a ≡ b
  pub settled : IsSettled table
  pub new : (before : List ℕ) (fields : List (List ℕ)) (row : Row) → table.IsRow fields row
      → table.Repeats before fields → Contains before (table.key row)
  pub later : (n : ℕ) (fields : List (List ℕ)) (row : Row) → table.IsRow fields row
      → AllPass (table.later n fields)

-- ---- records

-- records spell one list of rows
rows_once : {Row : Type 0} (table : Table Row) → IsLawful table
    → (records : List (List (List ℕ))) (a b : List Row)
    → AllZip table.IsRow records a → AllZip table.IsRow records b → a ≡ b
rows_once table lawful records a b is other = zip_once _ lawful.row_once _ a b is other

-- a record among accepted ones passes all checks
inside_sound : {Row : Type 0} (table : Table Row) → IsLawful table
    → (good : List (List (List ℕ))) (bad : List (List ℕ)) (rest : List (List (List ℕ)))
    (rows front : List Row)
    → AreRows table (good ++ bad ∷ rest) rows → AllZip table.IsRow good front
    → AllPass (checks_of table (keys_of table front) bad)
inside_sound {Row} table lawful good bad rest rows front are each =
    let found = zip_split _ _ _ _ _ are.each in
    let same = rows_once _ lawful _ _ _ found.each each in
    let split : rows ≡ front ++ found.at ∷ found.after = cc in
    let size : length rows ≡ length front + suc (length found.after) =
    cc (length-append front (found.at ∷ found.after)) in
    let keys : keys_of table rows ≡ keys_of table front ++ table.key found.at
    ∷ keys_of table found.after = cc (map-append table.key front (found.at ∷ found.after)) in
    let before = keys_of table front in (
      omega (arith, keys_length table front),
      each_of_both _ (fields_of table (length before + 1) bad) (others_of table before bad)
          (lawful.settled.pass bad found.at found.holds _) (
            λ repeat. new_id _ _ _ (subst (λ (l : List ℕ). AllDiffer l) keys are.differ)
                (lawful.new before bad found.at found.holds repeat),
            lawful.later _ bad found.at found.holds,
          ),
    )

-- accepted records have no fault
rows_or_fault : {Row : Type 0} (table : Table Row) → IsLawful table
    → {records : List (List (List ℕ))} (rows : List Row) {why : MapFault}
    → AreRows table records rows → RefusesRecord table records why → ⊥
rows_or_fault table lawful rows are refuses =
    none_refuses (checks_of table (keys_of table refuses.rows) refuses.bad) _
    (inside_sound _ lawful _ _ _ _ _
    (subst (λ (l : List (List (List ℕ))). AreRows table l rows) refuses.split are)
    refuses.accepted.each) refuses.refused

-- one faulty record isn't accepted before another
in_front : {Row : Type 0} (table : Table Row) → IsLawful table
    → (records : List (List (List ℕ))) (a b : MapFault)
    → (p : RefusesRecord table records a) (q : RefusesRecord table records b)
    → (more : List (List (List ℕ))) → q.good ≡ p.good ++ p.bad ∷ more → ⊥
in_front table lawful records a b p q more e =
    none_refuses (checks_of table (keys_of table p.rows) p.bad) a (inside_sound _ lawful _ _ _ _ _
    (subst (λ (l : List (List (List ℕ))). AreRows table l q.rows) e q.accepted) p.accepted.each)
    p.refused

-- records have one first fault
fault_once : {Row : Type 0} (table : Table Row) → IsLawful table
    → (records : List (List (List ℕ))) (a b : MapFault) → RefusesRecord table records a
    → RefusesRecord table records b → a ≡ b
fault_once {Row} table lawful records a b p q =
    elim (two_splits _ _ _ _ _ _ (sym p.split ∙ q.split)) [
      | one good bad ↦
          let rows = rows_once _ lawful _ _ _
          (subst (λ (l : List (List (List ℕ))). AllZip table.IsRow l p.rows) good p.accepted.each)
          q.accepted.each in
          let refused =
          subst (λ (l : List Row). Refuses (checks_of table (keys_of table l) q.bad) a) rows
          (subst (λ (fields : List (List ℕ)). Refuses
          (checks_of table (keys_of table p.rows) fields) a) bad p.refused) in
          first_once (checks_of table (keys_of table q.rows) q.bad) a b refused q.refused
      | before more e ↦ absurd (in_front _ lawful _ a b p q _ e)
      | behind _ e ↦ absurd (in_front _ lawful _ b a q p _ e)
    ]

-- ---- a text

-- the records after a header are one list
records_once : {header : List (List ℕ)} {all a b : List (List (List ℕ))} → all ≡ header ∷ a
    → all ≡ header ∷ b → a ≡ b
records_once is other = cc

pub keys_differ : {Row : Type 0} (table : Table Row) (text : List ℕ) (rows : List Row)
    → IsTableOf table text rows → AllDiffer (keys_of table rows)
keys_differ table text rows is = rising_differ _ is.2.rise

pub table_once : {Row : Type 0} {table : Table Row} → IsLawful table
    → {text : List ℕ} (a b : List Row) → IsTableOf table text a → IsTableOf table text b → a ≡ b
table_once {Row} {table} lawful a b is other =
    let records = records_once is.1.file other.1.file in
    let rows = rows_once _ lawful _ _ _
    (subst (λ (l : List (List (List ℕ))). AreRows table l is.0) records is.1.accepted).each
    other.1.accepted.each in
    let moved = subst (λ (l : List Row). IsPermutation l a) rows is.2.same in
    same_rising _ a b (IsPermutation-trans a _ b (IsPermutation-sym other.0 a moved) other.2.same)
    is.2.rise other.2.rise

pub table_or_fault : {Row : Type 0} {table : Table Row} → IsLawful table
    → {text : List ℕ} {rows : List Row} {why : MapFault} → IsTableOf table text rows
    → IsFaultOfTable table text why → ⊥
table_or_fault {table} lawful {why} is fault = elim fault [
  | inl header ↦ header.1 is.1.records is.1.file
  | inr refused ↦
      let records = records_once refused.1 is.1.file in
      rows_or_fault _ lawful _ is.1.accepted
      (subst (λ (l : List (List (List ℕ))). RefusesRecord table l why) records refused.2)
]

pub table_fault_once : {Row : Type 0} (table : Table Row) → IsLawful table
    → (text : List ℕ) (a b : MapFault) → IsFaultOfTable table text a → IsFaultOfTable table text b
    → a ≡ b
table_fault_once table lawful text a b is other = elim is [
  | inl header ↦ elim other [
    | inl lacks ↦ header.0 ∙ sym lacks.0
    | inr refused ↦ absurd (header.1 refused.0 refused.1)
  ]
  | inr refused ↦ elim other [
    | inl lacks ↦ absurd (lacks.1 refused.0 refused.1)
    | inr again ↦
        let records = records_once refused.1 again.1 in
        fault_once _ lawful _ a b (rw (← records) refused.2) again.2
  ]
]
