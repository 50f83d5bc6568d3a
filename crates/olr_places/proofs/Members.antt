-- How many matchings belong to a place, with one matching more.
use Rattle.std.proofs.lemmas.List.Sums.{count_by-le-length, length-filter}
use Rattle.olr_places.proofs.Common.{Entry, ◌≡◌, ◌≢◌, ℕ, ◌+◌, ◌<◌, ◌≤◌, List, [], ◌∷◌, ◌++◌, length, length-append, All, filter, refl, arith, ◌==◌, cases_eq, eq-eqb, ne_eqb, All-head, All-tail, filter-append}

-- how many of these have a number
abbrev pub count_of : (Entry → ℕ) → List Entry → ℕ → ℕ
count_of place entries index = length (filter (λ (one : Entry). place one == index) entries)

module _ (place : Entry → ℕ) where
  pub one_here : (one : Entry) (index : ℕ) → place one ≡ index → count_of place (one ∷ []) index ≡ 1
  one_here one index is = rw (eq-eqb (place one) index is) refl

  pub none_here : (one : Entry) (index : ℕ) → place one ≢ index
      → count_of place (one ∷ []) index ≡ 0
  none_here one index other = rw (ne_eqb (place one) index other) refl

  pub with_one : (entries : List Entry) (one : Entry) (index : ℕ)
      → count_of place (entries ++ one ∷ []) index ≡ count_of place entries index
      + count_of place (one ∷ []) index
  with_one entries one index = grind (arith, filter-append, length-append)

  pub at_most : (entries : List Entry) (index : ℕ) → count_of place entries index ≤ length entries
  at_most entries index = grind (arith, length-filter, count_by-le-length)

  pub none_past : (entries : List Entry) (index : ℕ)
      → All (λ (one : Entry). place one < index) entries → count_of place entries index ≡ 0
  none_past [] index all = refl
  none_past (one ∷ entries) index all = grind (
    arith,
    ne_eqb,
    All-head,
    All-tail,
    none_past entries index (All-tail (λ (one : Entry). place one < index) one entries all),
  )

-- two ways to number them that agree on each
pub agree : (place other : Entry → ℕ) (entries : List Entry) (index : ℕ)
    → All (λ (one : Entry). place one ≡ other one) entries
    → count_of place entries index ≡ count_of other entries index
agree place other [] index all = refl
agree place other (one ∷ entries) index all = grind (
  arith,
  All-tail,
  All-head,
  cases_eq,
  eq-eqb,
  ne_eqb,
  agree place other entries index
      (All-tail (λ (one : Entry). place one ≡ other one) one entries all),
)
