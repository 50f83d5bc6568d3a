-- Numbers of which neither is less are equal.
use Rattle.std.proofs.Common.{◌≡◌, ℕ, ◌<◌, inl, inr, arith}
use Rattle.std.proofs.lemmas.Bool.{cases_lt}

pub neither_less : {a b : ℕ} → (a < b → ⊥) → (b < a → ⊥) → a ≡ b
neither_less {a} {b} not_less not_more = elim (cases_lt a b) [
  | inl less ↦ absurd (not_less less)
  | inr le ↦ elim (cases_lt b a) [ inl more ↦ absurd (not_more more) | inr ge ↦ omega arith ]
]
