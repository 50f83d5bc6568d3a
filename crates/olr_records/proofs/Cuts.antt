-- A text in front of a byte is the same one, however it is taken apart there.
use Rattle.olr_records.proofs.Common.{◌≡◌, ◌≢◌, ℕ, suc, ◌<◌, List, [], ◌∷◌, ◌++◌, length, refl, ap, arith, slice_index}
use Rattle.std.proofs.lemmas.List.Elements.{All-append, All-cons, All-contains, All-from_get_or, Contains-append_right}

-- a byte doesn't occur in a text
abbrev pub Avoids : ℕ → List ℕ → Type 0
Avoids byte text = (k : ℕ) → k < length text → slice_index text k ≢ byte

-- what follows the first byte of a text
abbrev pub behind_first : List ℕ → List ℕ
behind_first [] = []
behind_first (x ∷ xs) = xs

-- two parts that avoid the byte behind them
pub one_way : (byte : ℕ) (a b x y : List ℕ) → Avoids byte a → Avoids byte x
    → a ++ byte ∷ b ≡ x ++ byte ∷ y → (a ≡ x) × (b ≡ y)
one_way byte [] b [] y fa fx e = (refl, ap behind_first e)
one_way byte [] b (d ∷ x) y fa fx e = absurd (fx 0 (omega arith) (cc))
one_way byte (c ∷ a) b [] y fa fx e = absurd (fa 0 (omega arith) (cc))
one_way byte (c ∷ a) b (d ∷ x) y fa fx e = grind (
  arith,
  one_way byte a b x y (λ k inside. fa (suc k) (omega arith))
      (λ k inside. fx (suc k) (omega arith)) (ap behind_first e),
)

-- what is taken apart at a byte doesn't avoid it
pub not_avoided : (byte : ℕ) (text front rest : List ℕ) → text ≡ front ++ byte ∷ rest
    → Avoids byte text → ⊥
not_avoided byte text front rest whole avoids =
    All-contains (λ b. b ≢ byte) text byte (All-from_get_or (λ b. b ≢ byte) text 0 avoids)
    (rw whole (Contains-append_right front (byte ∷ rest) byte (0, omega arith, refl))) refl

-- parts that avoid a byte, and another byte between them
pub avoids_parts : (byte other : ℕ) (front rest : List ℕ) → Avoids byte front → (other ≡ byte → ⊥)
    → Avoids byte rest → Avoids byte (front ++ other ∷ rest)
avoids_parts byte other front rest ff differs fr k inside =
    let Other : ℕ → Type 0 = λ b. b ≢ byte in
    All-append Other front (other ∷ rest) (All-from_get_or Other front 0 ff)
    (All-cons Other other rest differs (All-from_get_or Other rest 0 fr)) k 0 inside
