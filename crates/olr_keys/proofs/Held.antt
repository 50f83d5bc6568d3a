-- How many bytes the rows have that are held.
use Rattle.olr_keys.proofs.Common.{◌≡◌, ℕ, zero, suc, ◌+◌, ◌*◌, ◌<◌, List, [], ◌∷◌, length, take, refl, ap, arith, slice_index_or, get_or, sum_by, suc-mul, take_all, sum_by-cons, AreLastLayers, IsRowOf, IsTotal, bytes_of, held_bytes, width_of, Penalties, count_of}
use Rattle.olr_keys.proofs.Sizes.{sum_more}

-- rows of one width
rows_bytes : (width : ℕ) (rows : List (List ℕ))
    → ((index : ℕ) → index < length rows → length (get_or rows index []) ≡ width)
    → sum_by length rows ≡ length rows * width
rows_bytes width [] each = omega arith
rows_bytes width (row ∷ rows) each = omega (
  arith,
  sum_by-cons length row rows,
  each 0 (omega arith),
  rows_bytes width rows (λ index inside. each (suc index) (omega arith)),
  suc-mul (length rows) width,
)

module _ {p : Penalties} {marks : List (List (List ℕ))}
    (they : AreLastLayers p (length p.candidates) marks) where
  layer_bytes : (later left : ℕ) → later + (left + 1) ≡ length p.candidates
      → sum_by length (slice_index_or marks later []) ≡ count_of p left * width_of p
  layer_bytes later left all = grind (arith, rows_bytes)

  -- the rows of the last layers, and of those that are left
  layers_bytes : (later left : ℕ) → later + left ≡ length p.candidates
      → sum_by (λ (rows : List (List ℕ)). sum_by length rows) (take later marks)
      + sum_by length (take left p.candidates) * width_of p
      ≡ sum_by length p.candidates * width_of p
  layers_bytes zero left all = grind (arith, take_all)
  layers_bytes (suc later) left all =
      let bytes : List (List ℕ) → ℕ = λ rows. sum_by length rows in
      omega (
        arith,
        ap (λ (n : ℕ). sum_by bytes (take n marks)) {x = suc later} {y = later + 1} (omega arith),
        sum_more bytes [] marks later refl,
        layer_bytes later left (omega arith),
        ap (λ (n : ℕ). n * width_of p) (sum_more length [] p.candidates left refl),
        layers_bytes later (left + 1) (omega arith),
      )

-- the rows that are held have so many bytes: a row of the width for each candidate, and one for the
-- totals
pub held_is : {p : Penalties} {marks : List (List (List ℕ))} {totals : List ℕ}
    → AreLastLayers p (length p.candidates) marks → IsRowOf (IsTotal p) (width_of p) totals
    → held_bytes marks totals ≡ bytes_of p
held_is {p} {marks} they whole =
    grind (
      arith,
      layers_bytes they (length p.candidates) 0 (omega arith),
      take_all (length p.candidates) marks (omega (arith, they.layers)),
      suc-mul (sum_by length p.candidates) (width_of p),
    )
