-- Records that were read one after the other, and what each of them spells.
use Rattle.olr_map.proofs.Common.{Table, AddsRow, ◌≡◌, ℕ, List, [], ◌∷◌, ◌++◌, append_assoc, AllZip, zip_push}

-- of all records, those that were read spell the rows, and these are left
pub record Collects {Row : Type 0} (table : Table Row) (all left : List (List (List ℕ)))
    (rows : List Row) : Type 0 where
  pub read : List (List (List ℕ))
  pub split : all ≡ read ++ left
  pub each : AllZip table.IsRow read rows

pub collects_more : {Row : Type 0} {table : Table Row} {all here : List (List (List ℕ))}
    (left : List (List (List ℕ))) (fields : List (List ℕ)) {old new : List Row}
    → Collects table all here old → here ≡ fields ∷ left → AddsRow table fields old new
    → Collects table all left new
collects_more left fields collects next adds = record {
  read = collects.read ++ fields ∷ [];
  split = cc (append_assoc collects.read (fields ∷ []) left);
  each = rw adds.rows (zip_push _ _ _ _ _ collects.each adds.is);
}
