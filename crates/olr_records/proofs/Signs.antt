-- A number with a sign or without one, in front of a text.
use Rattle.olr_records.proofs.Common.{◌≡◌, ◌≢◌, ℕ, zero, suc, ◌^◌, ◌<◌, List, ◌∷◌, ◌++◌, get_or, Option, Some, None, Bor, option_map, refl, sym, inl, inr, ap, subst, ◌∙◌, append-nil, arith, ℤ, pos, ◌-ℤ◌, FitsSigned, to_z, of_z, w64, neg_ℤ, get_or-append, digit_at, IsNumber, IsSignedNumber, IsSeparator, behind, Begins}
use Rattle.std.proofs.Math.IntN.{+ℤ_idl}
use Rattle.std.proofs.Math.Facts.{to_z_pos, to_z-of_z}
use Rattle.olr_records.proofs.Cuts.{Avoids, behind_first, one_way, not_avoided}

-- ---- what is none

-- what begins with no number and no sign
pub none_plain : {text : List ℕ} {first : ℕ} {digits : List ℕ} (byte : ℕ) → text ≡ first ∷ digits
    → first ≢ 45
    → ((n : ℕ) (rest : Option (List ℕ)) → ¬ (Begins (λ front. IsNumber front n) byte text rest))
    → (z : ℤ) (rest : Option (List ℕ)) → Begins (λ front. IsSignedNumber front z) byte text rest → ⊥
none_plain byte whole other none z rest begins = elim begins.spelled [
  | inl plain ↦ none plain.0 rest
      (record { front = begins.front; whole = begins.whole; spelled = plain.1 })
  | inr negative ↦ other (ap (λ (l : List ℕ). get_or l 0 0) (sym whole ∙ begins.whole
      ∙ ap (λ (l : List ℕ). l ++ behind byte rest) negative.minus))
]

-- a sign, and what begins with no number
pub none_negative : {text digits : List ℕ} (byte : ℕ) → text ≡ 45 ∷ digits
    → ((n : ℕ) (rest : Option (List ℕ)) → ¬ (Begins (λ front. IsNumber front n) byte digits rest))
    → (z : ℤ) (rest : Option (List ℕ)) → Begins (λ front. IsSignedNumber front z) byte text rest → ⊥
none_negative byte whole none z rest begins = elim begins.spelled [
  | inl plain ↦
      let first = ap (λ (l : List ℕ). get_or l 0 0) (sym whole ∙ begins.whole)
      ∙ get_or-append begins.front (behind _ _) 0 0 plain.1.digits.0 in
      omega (arith, (digit_at begins.front 0 plain.1.digits.1 plain.1.digits.0).0)
  | inr negative ↦ none negative.n rest (record {
    front = negative.digits;
    whole = ap behind_first (sym whole ∙ begins.whole
        ∙ ap (λ (l : List ℕ). l ++ behind byte rest) negative.minus);
    spelled = negative.number;
  })
]

-- ---- what is one

plain : (n : ℕ) → n < 10 ^ 16 → to_z w64 n ≡ pos n
plain n small = to_z_pos w64 (omega arith)

negative_fits : (n : ℕ) → n < 10 ^ 16 → FitsSigned w64 (neg_ℤ (pos n))
negative_fits zero small = record { sfits = omega arith }
negative_fits (suc k) small = record { sfits = omega arith }

negated : (n : ℕ) → n < 10 ^ 16 → to_z w64 (of_z w64 (pos 0 -ℤ to_z w64 n)) ≡ neg_ℤ (pos n)
negated n small = rw (plain n small, +ℤ_idl (neg_ℤ (pos n))) (to_z-of_z (negative_fits n small))

-- and one behind a sign
pub is_negative : {text : List ℕ} (digits : List ℕ) {byte : ℕ} (n : ℕ) {rest : Option (List ℕ)}
    → text ≡ 45 ∷ digits → Begins (λ front. IsNumber front n) byte digits rest → n < 10 ^ 16
    → Begins (λ front. IsSignedNumber front (to_z w64 (of_z w64 (pos 0 -ℤ to_z w64 n)))) byte text
    rest
is_negative digits n whole begins small = record {
  front = 45 ∷ begins.front;
  whole = whole ∙ ap (λ (l : List ℕ). 45 ∷ l) begins.whole;
  spelled = inr (record {
    digits = begins.front;
    n = n;
    minus = refl;
    number = begins.spelled;
    value = negated n small;
  });
}

-- ---- one value alone

number_avoids : {byte : ℕ} (text : List ℕ) (n : ℕ) → IsSeparator byte → IsNumber text n
    → Avoids byte text
number_avoids text n separates is k inside e = grind (arith, digit_at)

negative_avoids : {byte : ℕ} {digits : List ℕ} (n : ℕ) → IsSeparator byte → IsNumber digits n
    → Avoids byte (45 ∷ digits)
negative_avoids n separates is zero inside e = grind arith
negative_avoids n separates is (suc k) inside e = number_avoids _ n separates is k (omega arith) e

-- a signed number has no separator
pub signed_avoids : {byte : ℕ} {text : List ℕ} (z : ℤ) → IsSeparator byte → IsSignedNumber text z
    → Avoids byte text
signed_avoids {byte = byte} z separates is = grind (arith, plain, number_avoids, negative_avoids)

plain_or_not : (text : List ℕ) {n : ℕ} {digits : List ℕ} → IsNumber text n → text ≡ 45 ∷ digits → ⊥
plain_or_not text is minus = grind (arith, digit_at)

-- a text spells one signed number
pub signed_once : (text : List ℕ) (y z : ℤ) → IsSignedNumber text y → IsSignedNumber text z → y ≡ z
signed_once text y z a b = grind (arith, plain_or_not, behind_first)

front_once : {byte : ℕ} (a x : List ℕ) (b y : Option (List ℕ)) → Avoids byte a → Avoids byte x
    → a ++ behind byte b ≡ x ++ behind byte y → (a ≡ x) × (behind byte b ≡ behind byte y)
front_once a x None None fa fx e = (sym (append-nil a) ∙ e ∙ append-nil x, refl)
front_once a x None (Some y) fa fx e = absurd (not_avoided _ a x y (sym (append-nil a) ∙ e) fa)
front_once a x (Some b) None fa fx e = absurd (not_avoided _ x a b (sym (append-nil x) ∙ sym e) fx)
front_once {byte = byte} a x (Some b) (Some y) fa fx e = grind (arith, one_way)

-- and begins with one, before the same text
pub begins_once : (text : List ℕ) (byte : ℕ) (y z : ℤ) (r s : Option (List ℕ)) → IsSeparator byte
    → Begins (λ front. IsSignedNumber front y) byte text r
    → Begins (λ front. IsSignedNumber front z) byte text s → (y ≡ z)
    × (behind byte r ≡ behind byte s)
begins_once text byte y z r s separates a b =
    let same = front_once _ _ r s (signed_avoids y separates a.spelled)
    (signed_avoids z separates b.spelled) (sym a.whole ∙ b.whole) in
    (signed_once _ y z (rw (← same.0) a.spelled) b.spelled, same.1)

-- ---- a whole text

-- what a text spells as a whole
abbrev pub whole_begins : (Spells : List ℕ → Type 0) (byte : ℕ) (text : List ℕ) → Spells text
    → Begins Spells byte text None
whole_begins Spells byte text is =
    record { front = text; whole = sym (append-nil text); spelled = is }

-- and where more is behind a byte, it spells nothing as a whole
pub none_with_more : (Spells : List ℕ → Type 0) (text : List ℕ) (byte : ℕ)
    {rest : Option (Bor (List ℕ))} (more : Bor (List ℕ)) (z : ℤ) → rest ≡ Some more
    → IsSeparator byte
    → Begins Spells byte text (option_map (λ part. part.now) rest) → IsSignedNumber text z → ⊥
none_with_more Spells text byte more z is_more separates begins is =
    let there = subst (λ (part : Option (Bor (List ℕ))). Begins Spells byte text
    (option_map (λ part. part.now) part)) is_more begins in
    not_avoided _ _ there.front more.now there.whole (signed_avoids z separates is)
