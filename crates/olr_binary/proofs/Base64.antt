-- What decoding by the standard engine says of the bytes of a text.
use Rattle.olr_binary.proofs.Common.{◌≡◌, ℕ, List, Ok, Err, refl, ap, ◌∙◌, decode_of, standard, AreBytes, IsBase64}
use Rattle.base64.specs.declared.decode.DecodeError.{DecodeError}
use Rattle.base64.proofs.EngineFacts.{decode_of_strict, decode_of-encode_of}

-- what decodes is the base64 of what it decodes to
pub base64_from_decoded : (text bytes : List ℕ) → AreBytes text → AreBytes bytes
    → decode_of standard text ≡ Ok bytes → IsBase64 text bytes
base64_from_decoded text bytes text_bytes fits e = record {
  each_byte = fits;
  spelling = decode_of_strict standard text bytes (refl, refl) text_bytes e;
}

-- the base64 of bytes decodes to them
pub decoded_from_base64 : (text bytes : List ℕ) → IsBase64 text bytes
    → decode_of standard text ≡ Ok bytes
decoded_from_base64 text bytes h = ap (decode_of standard) h.spelling
    ∙ decode_of-encode_of standard bytes refl h.each_byte

-- what doesn't decode is the base64 of nothing
pub not_base64 : (text bytes : List ℕ) (e : DecodeError) → decode_of standard text ≡ Err e
    → IsBase64 text bytes → ⊥
not_base64 text bytes e failed h = cc (decoded_from_base64 _ bytes h)

-- a text is the base64 of one byte list at most
pub base64_is_one : (text a b : List ℕ) → IsBase64 text a → IsBase64 text b → a ≡ b
base64_is_one text a b p q = cc (decoded_from_base64 _ a p, decoded_from_base64 _ b q)
