-- The columns of a record.
use Rattle.olr_map.proofs.Common.{arith, ◌≡◌, ℕ, List, Some, field_at, HasValue}

-- a field that spells nothing leaves its place without a value
pub no_value : {A : Type 0} {Spells : List ℕ → A → Type 0} {fields : List (List ℕ)} {place : ℕ}
    (text : List ℕ) → Some text ≡ field_at fields place
    → ((value : A) → Spells text value → ⊥) → HasValue Spells fields place → ⊥
no_value text at none has = grind arith
