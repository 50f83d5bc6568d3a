-- Texts that are cut at the first of a byte.
use Rattle.olr_candidates.proofs.Common.{◌≡◌, ℕ, ◌^◌, ◌<◌, suc, List, [], ◌∷◌, ◌++◌, arith, refl, Contains, decimal, ⊤, decimal_is_IsNumeral}
use Rattle.std.specs.Str.Parse.{AllDigits}
use Rattle.std.proofs.lemmas.Str.Parse.{digit_from_value}

-- a byte doesn't occur in a text
abbrev pub Lacks : ℕ → List ℕ → Type 0
Lacks byte [] = ⊤
Lacks byte (c ∷ text) = (c ≡ byte → ⊥) × Lacks byte text

-- the parts before and behind the first such byte
pub record SameCut (u v s t : List ℕ) : Type 0 where
  pub front : u ≡ v
  pub rest : s ≡ t

pub cut_once : (byte : ℕ) (u v s t : List ℕ) → Lacks byte u → Lacks byte v
    → u ++ byte ∷ s ≡ v ++ byte ∷ t → SameCut u v s t
cut_once byte [] [] s t lacks other same = record { front = refl; rest = cc }
cut_once byte [] (d ∷ v) s t lacks other same = absurd (other.0 cc)
cut_once byte (c ∷ u) [] s t lacks other same = absurd (lacks.0 cc)
cut_once byte (c ∷ u) (d ∷ v) s t lacks other same =
    let rest : u ++ byte ∷ s ≡ v ++ byte ∷ t = cc in
    let deeper = cut_once _ u v s t lacks.1 other.1 rest in
    let first : c ≡ d = cc in
    record { front = cc; rest = deeper.rest }

-- what doesn't contain a byte lacks it
pub lacks_from_not : (byte : ℕ) (text : List ℕ) → ¬ (Contains text byte) → Lacks byte text
lacks_from_not byte [] none = tt
lacks_from_not byte (c ∷ text) none = grind (
  arith,
  lacks_from_not byte text (λ found. none (suc found.0, omega (arith, found.1), found.2)),
)

digits_lack : (byte : ℕ) (text : List ℕ) → byte < 48 → AllDigits 10 text → Lacks byte text
digits_lack byte [] low digits = tt
digits_lack byte (c ∷ text) low digits =
    grind (arith, digit_from_value, digits_lack byte text low digits.1)

-- a number has digits alone
pub decimal_lacks : (byte n : ℕ) → byte < 48 → n < 2 ^ 64 → Lacks byte (decimal n)
decimal_lacks byte n low small = digits_lack _ _ low (decimal_is_IsNumeral n small).0.1
