-- The text of a reference is one line: it is base64, and no line feed is among the symbols of
-- base64.
use Rattle.std.proofs.Common.{◌≡◌, ℕ, zero, suc, ◌<◌, Bool, true, false, cond, nat_eq, List, [], ◌∷◌, ◌++◌, length, get_or, replicate, arith, refl, sym, subst, eq-eqb}
use Rattle.base64.specs.Rfc4648.{encode_symbols, padding_len}
use Rattle.base64.specs.Engines.{standard}
use Rattle.olr_binary.specs.Text.{trimmed, IsBase64}
use Rattle.olr_binary.specs.Outcome.{IsTextOf}
use Rattle.olr_binary.specs.declared.reference.Reference.{Reference}
use Rattle.olr_app_laws.specs.FingerprintLaws.{IsOneLine}
use Rattle.olr_candidates.proofs.Cutting.{Lacks}

-- ---- from a test to the fact

-- whether a byte doesn't occur in a text
abbrev has_none : ℕ → List ℕ → Bool
has_none byte [] = true
has_none byte (c ∷ text) = cond (nat_eq c byte) false (has_none byte text)

differs : (byte c : ℕ) (rest : Bool) → cond (nat_eq c byte) false rest ≡ true → c ≡ byte → ⊥
differs byte c rest test same = grind (arith, eq-eqb)

behind : (hit rest : Bool) → cond hit false rest ≡ true → rest ≡ true
behind true rest test = absurd cc
behind false rest test = test

lacks_from_test : (byte : ℕ) (text : List ℕ) → has_none byte text ≡ true → Lacks byte text
lacks_from_test byte [] test = tt
lacks_from_test byte (c ∷ text) test =
    (differs _ c _ test, lacks_from_test _ text (behind (nat_eq c byte) (has_none byte text) test))

not_at : (byte : ℕ) (text : List ℕ) (k : ℕ) → Lacks byte text → k < length text
    → get_or text k byte ≡ byte → ⊥
not_at byte [] k lacks inside same = absurd (omega arith)
not_at byte (c ∷ text) zero lacks inside same = lacks.0 same
not_at byte (c ∷ text) (suc k) lacks inside same =
    not_at byte text k lacks.1 (omega (arith, inside)) same

-- ---- the symbols of base64

-- no symbol of a list is the byte, nor is the 0 past its end
differs_at : (byte : ℕ) (symbols : List ℕ) (k : ℕ) → (0 ≡ byte → ⊥) → Lacks byte symbols
    → get_or symbols k 0 ≡ byte → ⊥
differs_at byte [] k none lacks same = none same
differs_at byte (c ∷ symbols) zero none lacks same = lacks.0 same
differs_at byte (c ∷ symbols) (suc k) none lacks same = differs_at _ symbols k none lacks.1 same

lacks_both : (byte : ℕ) (u v : List ℕ) → Lacks byte u → Lacks byte v → Lacks byte (u ++ v)
lacks_both byte [] v lacks other = other
lacks_both byte (c ∷ u) v lacks other = (lacks.0, lacks_both _ u v lacks.1 other)

lacks_replicate : (byte c n : ℕ) → (c ≡ byte → ⊥) → Lacks byte (replicate n c)
lacks_replicate byte c zero differ = tt
lacks_replicate byte c (suc n) differ = (differ, lacks_replicate _ c n differ)

symbols_lack : (byte : ℕ) (t bytes : List ℕ) → ((k : ℕ) → get_or t k 0 ≡ byte → ⊥)
    → Lacks byte (encode_symbols t bytes)
unfolding encode_symbols
symbols_lack byte t [] differ = tt
symbols_lack byte t (a ∷ []) differ = (differ _, (differ _, tt))
symbols_lack byte t (a ∷ b ∷ []) differ = (differ _, (differ _, (differ _, tt)))
symbols_lack byte t (a ∷ b ∷ c ∷ rest) differ = grind (arith, symbols_lack byte t rest differ)

standard_lacks : Lacks 10 standard.encode_table
standard_lacks = lacks_from_test 10 standard.encode_table refl

base64_lacks : (text bytes : List ℕ) → IsBase64 text bytes → Lacks 10 text
base64_lacks text bytes is =
    let table = standard.encode_table in
    let all = lacks_both 10 (encode_symbols table bytes) (replicate (padding_len (length bytes)) 61)
    (symbols_lack _ _ bytes (λ k. differs_at 10 table k (λ e. omega (arith, e)) standard_lacks))
    (lacks_replicate _ _ (padding_len (length bytes)) (λ e. omega (arith, e))) in
    subst (λ (l : List ℕ). Lacks 10 l) (sym is.spelling) all

pub text_is_one_line : (text : List ℕ) (reference : Reference) → IsTextOf text reference
    → IsOneLine (trimmed text)
text_is_one_line text reference is found = not_at _ _ _ (base64_lacks _ _ is.base64) found.1 found.2
