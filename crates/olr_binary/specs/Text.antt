-- The bytes of a text: without the blanks at its ends it is base64 with padding (RFC 4648, section
-- 4). The alphabet and the padding are those that the crate `base64` states for `STANDARD`.
use Rattle.std.specs.Prelude.{◌≡◌, ℕ, ◌<◌, ◌==◌, ◌||◌, Bool, if◌then◌else◌, List, [], ◌∷◌, reverse, slice_index}
use Rattle.base64.specs.GeneralPurpose.{encode_of}
use Rattle.base64.specs.Engines.{standard}

-- a space, a tab, a carriage return or a line feed
abbrev pub is_blank : ℕ → Bool
is_blank c = (c == 32) || (c == 9) || (c == 13) || (c == 10)

-- the text from its first character on that is not a blank
abbrev pub without_leading : List ℕ → List ℕ
without_leading [] = []
without_leading (c ∷ cs) = if is_blank c then without_leading cs else c ∷ cs

-- the text up to its last character that is not a blank
abbrev pub without_trailing : List ℕ → List ℕ
without_trailing text = reverse (without_leading (reverse text))

-- the text without the blanks at its two ends
unfoldable pub trimmed : List ℕ → List ℕ
trimmed text = without_trailing (without_leading text)

-- every item is a byte
abbrev pub AreBytes : List ℕ → Type 0
AreBytes bytes = (i : ℕ) → slice_index bytes i < 256

-- the text is the standard base64 of these bytes, padding included
pub record IsBase64 (text bytes : List ℕ) : Type 0 where
  pub each_byte : AreBytes bytes
  pub spelling : text ≡ encode_of standard bytes
