-- Lists of which some items are kept.
use Rattle.std.proofs.Common.{◌≡◌, ℕ, zero, suc, ◌<◌, Bool, true, false, List, [], ◌∷◌, length, filter, get_or, All, refl, sym, ◌∙◌, inl, inr, arith}
use Rattle.std.proofs.lemmas.Bool.{cases_Bool}
use Rattle.std.specs.Prelude.{AllPairs}
use Rattle.std.specs.List.{items_where_true}
use Rattle.std.specs.List.Retain.{IsFiltered, ReturnsInTurn}

-- ---- those that pass a test

module _ {X : Type 0} (t : X → Bool) where
  -- what holds of all that are kept holds of one that passes
  one_kept : (P : X → Type 0) (xs : List X) (j : ℕ) (d : X) → j < length xs
      → t (get_or xs j d) ≡ true → All P (filter t xs) → P (get_or xs j d)
  one_kept P [] j d inside passes all = absurd (omega arith)
  one_kept P (x ∷ xs) zero d inside passes all =
      let kept : All P (x ∷ filter t xs) = rw passes at all in kept 0 x (omega arith)
  one_kept P (x ∷ xs) (suc j) d inside passes all = elim (cases_Bool (t x)) [
    | inl passing ↦
        let kept : All P (x ∷ filter t xs) = rw passing at all in
        one_kept P xs j d (omega arith) passes
        (λ k e within. kept (suc k) e (omega arith))
    | inr failing ↦ one_kept P xs j d (omega arith) passes (rw failing at all)
  ]

  -- two that pass are kept in their order
  pub two_kept : (R : X → X → Type 0) (xs : List X) (i j : ℕ) (d : X) → i < j → j < length xs
      → t (get_or xs i d) ≡ true → t (get_or xs j d) ≡ true → AllPairs R (filter t xs)
      → R (get_or xs i d) (get_or xs j d)
  two_kept R [] i j d less inside first second all = absurd (omega arith)
  two_kept R (x ∷ xs) i zero d less inside first second all = absurd (omega arith)
  two_kept R (x ∷ xs) zero (suc j) d less inside first second all =
      let kept : AllPairs R (x ∷ filter t xs) = rw first at all in
      one_kept (R x) xs j d (omega arith) second
      (λ k e within. kept 0 (suc k) e (omega arith) (omega arith))
  two_kept R (x ∷ xs) (suc i) (suc j) d less inside first second all = elim (cases_Bool (t x)) [
    | inl passing ↦
        let kept : AllPairs R (x ∷ filter t xs) = rw passing at all in
        two_kept R xs i j d (omega arith) (omega arith) first second
        (λ k l e lt within. kept (suc k) (suc l) e (omega arith) (omega arith))
    | inr failing ↦ two_kept R xs i j d (omega arith) (omega arith) first second (rw failing at all)
  ]

-- ---- what `retain` leaves, where its test stays as it is

module _ {X P : Type 0} (R : P → X → Bool → P → Type 0) (test : X → Bool) (p : P)
    (says : (x : X) (b : Bool) (q : P) → R p x b q → (b ≡ test x) × (q ≡ p)) where
  told : (bs : List Bool) (xs : List X) (q : P) → length bs ≡ length xs
      → ReturnsInTurn R p bs xs q → items_where_true bs xs ≡ filter test xs
  told [] [] q same turns = refl
  told [] (x ∷ xs) q same turns = absurd (omega arith)
  told (b ∷ bs) [] q same turns = absurd turns
  told (b ∷ bs) (x ∷ xs) q same turns =
      let said = says x b turns.0 turns.1 in
      let rest = told bs xs q (omega arith)
      (rw said.1 at turns.2) in
      first b said.0 rest
    where
      first : (c : Bool) → c ≡ test x → items_where_true bs xs ≡ filter test xs
          → items_where_true (c ∷ bs) (x ∷ xs) ≡ filter test (x ∷ xs)
      first true is rest = rw (sym is, rest) refl
      first false is rest = rw (sym is, rest) refl

  pub retained : (xs ys : List X) → IsFiltered R p xs ys → ys ≡ filter test xs
  retained xs ys (bs, q, same, turns, is) = is ∙ told bs xs q same turns
