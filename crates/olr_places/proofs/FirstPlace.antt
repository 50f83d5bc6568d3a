-- The first of a list's elements that passes a test.
use Rattle.olr_places.proofs.Common.{◌≡◌, ℕ, zero, suc, ◌<◌, ◌≤◌, Bool, true, false, List, [], ◌∷◌, length, map, take, get_or, All, refl, arith, list_any, position_or_len, take_all, All-head, All-tail}

module _ {X Y : Type 0} (f : X → Y) (p : Y → Bool) where
  abbrev Fails : X → Type 0
  Fails x = p (f x) ≡ false

  pub first_at : (xs : List X) (i : ℕ) (x : X) → i < length xs → x ≡ get_or xs i x
      → All Fails (take i xs)
      → p (f x) ≡ true → (list_any p (map f xs) ≡ true) × (position_or_len p (map f xs) ≡ i)
  first_at [] i x lt is none passes = absurd (omega arith)
  first_at (y ∷ xs) zero x lt is none passes = grind arith
  first_at (y ∷ xs) (suc i) x lt is none passes = grind (
    arith,
    All-head,
    All-tail,
    first_at xs i x (omega arith) is (All-tail Fails y (take i xs) none) passes,
  )

  none_passes : (xs : List X) → All Fails xs → list_any p (map f xs) ≡ false
  none_passes [] none = refl
  none_passes (x ∷ xs) none =
      grind (arith, All-head, All-tail, none_passes xs (All-tail Fails x xs none))

  pub none_at : (xs : List X) (i : ℕ) → length xs ≤ i → All Fails (take i xs)
      → list_any p (map f xs) ≡ false
  none_at xs i past none = grind (arith, none_passes, take_all)
