-- The digits of a mark, and those of `hex`.
use Rattle.olr_keys.proofs.Common.{◌≡◌, ℕ, ◌/◌, ◌%◌, ◌<◌, List, [], ◌∷◌, slice_index, true, false, refl, arith, All, Ok, nat_lt, agree_below_at, eqb-true, All-head, All-tail, Decides-ltb, IsUtf8-from_ascii, IsBytes, decode_sized, encode_lower, encode_with, lower_digits, IsMark, hexadecimal, Mark}
use Rattle.std.specs.Fmt.{digit_glyph}
use Rattle.std.specs.Str.{IsAscii, IsUtf8}
use Rattle.std.proofs.lemmas.Str.Ascii.{IsAscii-from_reads}
use Rattle.hex.proofs.HexLemmas.{IsAscii-encode_with, decode_of-encode_lower, decode_of-same, decode_sized-encode_lower}
use Rattle.olr_keys.proofs.Bounds.{at_index}

one_digit : (value : ℕ) → value < 16 → slice_index lower_digits value ≡ digit_glyph false value
one_digit value small = grind (arith, eqb-true, agree_below_at)

-- the digits of bytes are those that `hex` writes
pub digits_are : (bytes : List ℕ) → All (λ (byte : ℕ). byte < 256) bytes
    → encode_lower bytes ≡ hexadecimal bytes
unfolding encode_with
digits_are [] each = refl
digits_are (byte ∷ bytes) each =
    let fits = All-head (λ byte. byte < 256) byte _ each in
    let high = one_digit (byte / 16) (omega arith) in
    let low = one_digit (byte % 16) (omega arith) in
    let later = digits_are bytes (All-tail (λ (byte : ℕ). byte < 256) byte _ each) in cc

are_bytes : (bytes : List ℕ) → All (λ (byte : ℕ). byte < 256) bytes → IsBytes bytes
are_bytes bytes each index = at_index (λ (byte : ℕ). byte < 256) _ _ 0 each (omega arith)

ascii_digits : IsAscii lower_digits
ascii_digits =
    IsAscii-from_reads lower_digits 16 (omega arith) (λ k below.
    let small = Decides-ltb _ _ in
    small.0 (agree_below_at (λ (n : ℕ). nat_lt (slice_index lower_digits n) 128) (λ (n : ℕ). true) _
    k refl below))

pub are_text : (bytes : List ℕ) → IsUtf8 (encode_lower bytes)
are_text bytes = IsUtf8-from_ascii _ (IsAscii-encode_with lower_digits bytes ascii_digits)

-- the digits of a mark are read as the mark
pub mark_read : {mark : Mark} {text : List ℕ} → IsMark mark → text ≡ hexadecimal mark.0
    → decode_sized text 32 ≡ Ok mark.0
mark_read {mark} is same =
    cc (digits_are _ is.bytes, decode_sized-encode_lower mark.0 32 is.count (are_bytes _ is.bytes))

-- bytes have one text
pub one_bytes : (a b : List ℕ) → All (λ (byte : ℕ). byte < 256) a → All (λ (byte : ℕ). byte < 256) b
    → hexadecimal a ≡ hexadecimal b → a ≡ b
one_bytes a b each each' same =
    let text : encode_lower a ≡ encode_lower b = cc (digits_are _ each, digits_are _ each') in
    decode_of-same (encode_lower a) a b (decode_of-encode_lower a (are_bytes _ each))
    (cc (decode_of-encode_lower b (are_bytes _ each')))
