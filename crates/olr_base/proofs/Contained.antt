-- The members of a list, and how many of them can differ.
use Rattle.std.proofs.Common.{◌≡◌, ◌≢◌, ℕ, zero, suc, ◌<◌, ◌≤◌, List, [], ◌∷◌, ◌++◌, Some, length, get_or, All, inl, inr, sym, ap, refl, arith}
use Rattle.std.specs.Prelude.{◌⊎◌, slice_get, AllPairs, Contains}
use Rattle.std.proofs.lemmas.Option.{same_Some, slice_get_within}
use Rattle.std.specs.List.{remove}
use Rattle.std.proofs.lemmas.List.Edits.{length-remove}
use Rattle.std.proofs.lemmas.List.Sorted.{IsPermutation-remove, Contains-permutation}

-- a member is the first or one behind it
pub member : {X : Type 0} (x : X) (xs : List X) (z : X) → Contains (x ∷ xs) z → (x ≡ z)
    ⊎ Contains xs z
member x xs z (zero, inside, is) = inl is
member x xs z (suc k, inside, is) = inr (k, omega arith, is)

-- the first is one, and so is each behind it
pub here : {X : Type 0} (x : X) (xs : List X) → Contains (x ∷ xs) x
here x xs = (0, omega arith, refl)

pub further : {X : Type 0} (x : X) (xs : List X) (z : X) → Contains xs z → Contains (x ∷ xs) z
further x xs z (k, inside, is) = (suc k, omega arith, is)

-- an element of a list with one more at its end is of the list, or the last
pub first_or_last : {X : Type 0} (xs : List X) (x y : X) (index : ℕ)
    → slice_get (xs ++ x ∷ []) index ≡ Some y
    → (slice_get xs index ≡ Some y) ⊎ ((index ≡ length xs) × (x ≡ y))
first_or_last [] x y zero at = inr (refl, same_Some x y at)
first_or_last [] x y (suc index) at =
    absurd (omega (arith, slice_get_within [] index y at))
first_or_last (first ∷ xs) x y zero at = inl at
first_or_last (first ∷ xs) x y (suc index) at = elim (first_or_last xs x y index at) [
  | inl before ↦ inl before
  | inr last ↦ inr (ap suc last.0, last.1)
]

-- it is still one where another is taken away
still_contained : {X : Type 0} (ys : List X) (i : ℕ) (x z : X) → i < length ys → x ≡ get_or ys i x
    → x ≢ z → Contains ys z → Contains (remove ys i) z
still_contained ys i x z inside is other contains =
    elim (member x _ z (Contains-permutation _ _ z (IsPermutation-remove _ i x inside is) contains)) [
      | inl same ↦ absurd (other same)
      | inr there ↦ there
    ]

-- a list of differing elements is no longer than one that contains them
pub no_longer : {X : Type 0} (xs ys : List X) → AllPairs (λ a b. a ≢ b) xs → All (Contains ys) xs
    → length xs ≤ length ys
no_longer [] ys differ within = omega arith
no_longer (x ∷ xs) ys differ within =
    let at = within 0 x (omega arith) in
    let rest = no_longer xs (remove ys at.0)
    (λ i j d below inside. differ (suc i) (suc j) d (omega arith) (omega arith))
    (λ k d inside. still_contained _ _ x _ at.1 (sym at.2)
    (differ 0 (suc k) d (omega arith) (omega arith))
    (within (suc k) d (omega arith))) in
    omega (arith, length-remove _ _ at.1)
