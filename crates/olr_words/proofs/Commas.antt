-- Texts without a comma, and the one way to cut a text at its first comma. 44 is the comma's code.
use Rattle.std.proofs.Common.{◌≡◌, ◌≢◌, ℕ, ◌<◌, List, [], ◌∷◌, ◌++◌, length, length-append, get_or, suc, Option, Some, None, Bor, refl, ap, arith}
use Rattle.std.proofs.Math.Seq.{get_or-append_seam}
use Rattle.std.proofs.lemmas.Str.Pattern.{IsSplitOnceResult, split_parts}

-- no byte of a text is a comma
pub record LacksComma (text : List ℕ) : Type 0 where
  pub each : (i : ℕ) → i < length text → get_or text i 0 ≢ 44

lacks_tail : {byte : ℕ} {text : List ℕ} → LacksComma (byte ∷ text) → LacksComma text
lacks_tail lacks = record { each = λ i inside. lacks.each (suc i) (omega arith) }

-- a text is cut in one way at its first comma
pub one_cut : (front later front' later' : List ℕ) → LacksComma front → LacksComma front'
    → front ++ 44 ∷ later ≡ front' ++ 44 ∷ later' → (front ≡ front') × (later ≡ later')
one_cut [] later [] later' lacks lacks' same = (refl, cc)
one_cut [] later (first ∷ front') later' lacks lacks' same =
    let is : first ≡ 44 = cc in absurd (lacks'.each 0 (omega arith) is)
one_cut (first ∷ front) later [] later' lacks lacks' same =
    let is : first ≡ 44 = cc in absurd (lacks.each 0 (omega arith) is)
one_cut (first ∷ front) later (first' ∷ front') later' lacks lacks' same =
    let others : front ++ 44 ∷ later ≡ front' ++ 44 ∷ later' = cc in
    let rest = one_cut front later front' later' (lacks_tail lacks) (lacks_tail lacks') others in
    let front_is : front ≡ front' = rest.0 in (cc, rest.1)

-- a text that is cut at its first comma
pub record IsCut (text front later : List ℕ) : Type 0 where
  pub whole : text ≡ front ++ 44 ∷ later
  pub lacks : LacksComma front

-- ---- what `split_once` gives at a comma

pub cut_at : {text : List ℕ} (found : Option (Bor (List ℕ) × Bor (List ℕ)))
    (parts : Bor (List ℕ) × Bor (List ℕ)) → IsSplitOnceResult 44 text found → found ≡ Some parts
    → IsCut text parts.0.now parts.1.now
cut_at {text} found parts split some =
    let (whole, lacks) = rw some at (split_parts 44 text found split (omega arith)) in
    record { whole = whole; lacks = record { each = lacks } }

pub uncut : {text : List ℕ} (found : Option (Bor (List ℕ) × Bor (List ℕ)))
    → IsSplitOnceResult 44 text found → found ≡ None → (front later : List ℕ)
    → text ≢ front ++ 44 ∷ later
uncut {text} found split none front later same =
    let lacks = rw none at (split_parts 44 text found split (omega arith)) in
    lacks (length front) (omega (arith, ap length same, length-append front (44 ∷ later)))
    (cc (get_or-append_seam front 44 later 0))
