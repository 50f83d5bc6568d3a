-- Texts that lack a byte, and texts that are cut at a byte.
use Rattle.olr_keys.proofs.Common.{◌≡◌, ℕ, ◌<◌, ◌≤◌, ◌^◌, List, [], ◌∷◌, ◌++◌, length, get_or, Option, Some, None, Bor, refl, sym, ap, ◌∙◌, length-append, arith, ◌≢◌, decimal, All, get_or-append_seam, decimal_is_IsNumeral, get_or_default, All-tail}
use Rattle.std.proofs.lemmas.Str.Parse.{digit_at}
use Rattle.std.proofs.lemmas.Str.Pattern.{IsSplitOnceResult, split_parts}

-- no byte of a text is this one
pub record Lacks (byte : ℕ) (text : List ℕ) : Type 0 where
  pub each : All (λ (other : ℕ). other ≢ byte) text

-- a number in decimal has no other bytes than digits
pub lacks_decimal : {byte n : ℕ} → (48 ≤ byte → 57 < byte) → n < 2 ^ 64 → Lacks byte (decimal n)
lacks_decimal {n} other small = record {
  each = λ i d inside same.
      let numeral = decimal_is_IsNumeral n small in
      let digit = digit_at (decimal n) i numeral.0.1 inside in
      let here = sym (get_or_default (decimal n) i d 0 inside) ∙ same in absurd (omega arith);
}

-- a text is cut in one way at the first of a byte
pub one_cut : {byte : ℕ} (front later front' later' : List ℕ) → Lacks byte front → Lacks byte front'
    → front ++ byte ∷ later ≡ front' ++ byte ∷ later'
    → (front ≡ front') × (later ≡ later')
one_cut [] later [] later' lacks lacks' same = (refl, cc)
one_cut {byte} [] later (first ∷ front') later' lacks lacks' same = let is : first ≡ byte = cc in
    absurd (lacks'.each 0 0 (omega arith) is)
one_cut {byte} (first ∷ front) later [] later' lacks lacks' same = let is : first ≡ byte = cc in
    absurd (lacks.each 0 0 (omega arith) is)
one_cut {byte} (first ∷ front) later (first' ∷ front') later' lacks lacks' same =
    let others : front ++ byte ∷ later ≡ front' ++ byte ∷ later' = cc in
    let rest =
    one_cut _ _ _ _ (record {
      each =
          All-tail (λ other. other ≢ byte) first _ lacks.each;
    })
    (record { each = All-tail (λ other. other ≢ byte) first' _ lacks'.each }) others in
    let front_is : front ≡ front' = rest.0 in (cc, rest.1)

-- a text that lacks a byte isn't one that is cut at it
pub not_cut : (byte : ℕ) (text front later : List ℕ) → Lacks byte text
    → text ≢ front ++ byte ∷ later
not_cut byte text front later lacks same =
    lacks.each (length front) 0 (omega (arith, ap length same, length-append front (byte ∷ later)))
    (cc (get_or-append_seam front byte later 0))

-- ---- what `split_once` gives at a byte

lacks_each : {byte : ℕ} {text : List ℕ} → ((i : ℕ) → i < length text → get_or text i 0 ≢ byte)
    → Lacks byte text
lacks_each {text} each = grind (arith, each, get_or_default)

-- a text that isn't cut lacks the byte
pub lacks_uncut : {byte : ℕ} {text : List ℕ} (found : Option (Bor (List ℕ) × Bor (List ℕ)))
    → IsSplitOnceResult byte text found → byte < 128 → found ≡ None → Lacks byte text
lacks_uncut {byte} {text} found split ascii none =
    lacks_each (rw none at (split_parts _ _ found split ascii))

-- a text that is cut at its first such byte
pub record IsCut (byte : ℕ) (text front later : List ℕ) : Type 0 where
  pub whole : text ≡ front ++ byte ∷ later
  pub lacks : Lacks byte front

pub cut_at : {byte : ℕ} {text : List ℕ} (found : Option (Bor (List ℕ) × Bor (List ℕ)))
    (parts : Bor (List ℕ) × Bor (List ℕ)) → IsSplitOnceResult byte text found → byte < 128
    → found ≡ Some parts → IsCut byte text parts.0.now parts.1.now
cut_at {byte} {text} found parts split ascii some = grind (arith, split_parts, lacks_each)
