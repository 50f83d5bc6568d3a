-- The digits of a number, one after the other.
use Rattle.olr_records.proofs.Common.{◌≡◌, ℕ, ◌+◌, ◌-◌, ◌*◌, ◌^◌, ◌<◌, ◌≤◌, List, ◌++◌, length, take, drop, get_or, sym, ap, ◌∙◌, subst, inl, inr, Option, Some, None, arith, digits_value, AllDigits, length-take-le, length-append, length-drop, digit_at, digits_value_short, numerals_by_value, tells_digits, digits_value_more, get_or-append, IsNumber, IsSeparator, behind, Begins}
use Rattle.std.specs.Char.{IsAsciiDigit, IsNotAsciiDigit}
use Rattle.std.proofs.lemmas.Str.{digit_value_digit}
use Rattle.std.proofs.Math.Seq.{get_or-take, get_or-append-add, drop-append_seam, take-length}

-- k digits at most spell less than 10^k
pub small : (text : List ℕ) (i k : ℕ) → i ≤ length text → i ≤ k → AllDigits 10 (take i text)
    → digits_value 10 (take i text) < 10 ^ k
small text i k inside short digits =
    let size = length-take-le i text inside in
    digits_value_short (numerals_by_value (AllDigits 10) tells_digits) (take i text) k digits
    (omega arith)

-- the value of one digit more
pub value_after : (text : List ℕ) (i : ℕ) {value : ℕ} → i < length text
    → IsAsciiDigit (get_or text i 0) → value ≡ digits_value 10 (take i text)
    → 10 * value + (get_or text i 0 - 48) ≡ digits_value 10 (take (i + 1) text)
value_after text i inside digit same = grind (arith, digit_value_digit, digits_value_more)

-- ---- the digits with which a text begins

-- they are so many, up to 17
pub record AreFirstDigits (text : List ℕ) (count : ℕ) : Type 0 where
  pub within : count ≤ length text
  pub digits : AllDigits 10 (take count text)
  pub all : count < 17 → count < length text → IsNotAsciiDigit (get_or text count 0)

not_both : (byte : ℕ) → IsAsciiDigit byte → IsNotAsciiDigit byte → ⊥
not_both byte digit other = elim other [ inl low ↦ omega arith | inr high ↦ omega arith ]

-- what follows the part that a number spells begins with no digit
no_digit_behind : {byte : ℕ} (rest : Option (List ℕ)) → IsSeparator byte
    → 0 < length (behind byte rest) → IsNotAsciiDigit (get_or (behind byte rest) 0 0)
no_digit_behind None separates some = absurd (omega arith)
no_digit_behind (Some rest) separates some = grind arith

-- a number in front of a text has all of these digits
pub all_digits : (text : List ℕ) (count : ℕ) (byte n : ℕ) (rest : Option (List ℕ))
    → IsSeparator byte → AreFirstDigits text count
    → (begins : Begins (λ front. IsNumber front n) byte text rest) → length begins.front ≡ count
all_digits text count byte n rest separates are begins =
    let front = begins.front in
    let tail = behind _ _ in
    let size = ap length begins.whole ∙ length-append front tail in
    let fewer : length front < count → ⊥ = λ less.
    let there = get_or-take count text (length front) 0 less
    ∙ ap (λ (l : List ℕ). get_or l (length front) 0) begins.whole
    ∙ ap (λ (k : ℕ). get_or (front ++ tail) k 0) (omega arith) ∙ get_or-append-add front tail 0 0 in
    not_both _
    (subst IsAsciiDigit there (digit_at (take count text) (length front) are.digits
    (omega (arith, length-take-le count text are.within))))
    (no_digit_behind _ separates (omega arith)) in
    let more : count < length front → ⊥ = λ less.
    not_both _ (digit_at front count begins.spelled.digits.1 less)
    (subst IsNotAsciiDigit (ap (λ (l : List ℕ). get_or l count 0) begins.whole ∙ get_or-append front
    tail 0 _ less) (are.all (omega arith) (omega arith))) in
    omega arith

-- and what follows it follows them
pub behind_digits : (text : List ℕ) (count : ℕ) (byte n : ℕ) (rest : Option (List ℕ))
    → IsSeparator byte → AreFirstDigits text count
    → Begins (λ front. IsNumber front n) byte text rest
    → take (length text - count) (drop count text) ≡ behind byte rest
behind_digits text count byte n rest separates are begins =
    ap (λ (k : ℕ). take k (drop count text)) (sym (length-drop count text))
    ∙ take-length (drop count text)
    ∙ ap (λ (k : ℕ). drop k text) (sym (all_digits text count byte n rest separates are begins))
    ∙ ap (λ (l : List ℕ). drop (length begins.front) l) begins.whole
    ∙ drop-append_seam begins.front (behind _ _)
