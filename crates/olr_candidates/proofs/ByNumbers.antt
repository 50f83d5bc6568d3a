-- The order by one number and then, where it is the same, by another.
use Rattle.olr_candidates.proofs.Common.{◌≡◌, ℕ, ◌<◌, inl, inr, arith, ◌⊎◌, cases_order}

module _ {X : Type 0} (number other : X → ℕ) where
  abbrev pub ComesBefore : X → X → Type 0
  ComesBefore a b = (number a < number b) ⊎ ((number a ≡ number b) × (other a < other b))

  -- no two elements come before each other
  pub one_way : (a b : X) → ComesBefore a b → ComesBefore b a → ⊥
  one_way a b (inl one) (inl back) = omega arith
  one_way a b (inl one) (inr back) = omega arith
  one_way a b (inr one) (inl back) = omega arith
  one_way a b (inr one) (inr back) = omega arith

  -- what comes before an element comes before those behind it
  pub through : (a b c : X) → ComesBefore a b → ComesBefore b c → ComesBefore a c
  through a b c (inl one) (inl next) = inl (omega arith)
  through a b c (inl one) (inr next) = inl (omega arith)
  through a b c (inr one) (inl next) = inl (omega arith)
  through a b c (inr one) (inr next) = inr (omega arith, omega arith)

  -- of two elements that differ in the other number one comes before the other
  pub not_before : (a b : X) → (other a ≡ other b → ⊥) → (ComesBefore a b → ⊥) → ComesBefore b a
  not_before a b differ not = grind (arith, cases_order)
