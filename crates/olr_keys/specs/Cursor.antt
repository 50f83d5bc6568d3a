-- The text of a cursor: the key of a matching, and perhaps the mark of the inputs that the matching
-- is of.
use Rattle.std.specs.Prelude.{◌≡◌, ℕ, ◌/◌, ◌%◌, ◌<◌, ◌≤◌, List, [], ◌∷◌, ◌++◌, length, map, codes, decimal, false, Option, None, Some, All, IfSome, Result, MatchResult}
use Rattle.std.specs.Fmt.{digit_glyph}
use Rattle.std.specs.List.{join_with_byte}
use Rattle.olr_keys.specs.Key.{KeyValue, IsInRange, IsRank}
use Rattle.olr_keys.specs.declared.cursor.BadCursor.{BadCursor}
use Rattle.olr_keys.specs.declared.cursor.CursorRead.{CursorRead}
use Rattle.olr_keys.specs.declared.mark.Mark.{Mark}

-- the ranks in decimal, joined by dots: 46 is the code of the dot
abbrev pub ranks_text : List ℕ → List ℕ
ranks_text ranks = join_with_byte 46 (map decimal ranks)

-- ranks as a key has them: at least one, and at most so many
pub record AreRanks (most : ℕ) (ranks : List ℕ) : Type 0 where
  pub at_least : 1 ≤ length ranks
  pub at_most : length ranks ≤ most
  pub each : All IsRank ranks

-- the total in decimal, a colon, and the ranks
abbrev pub key_text : KeyValue → List ℕ
key_text key = decimal key.total ++ codes ":" ++ ranks_text key.ranks

-- bytes as hexadecimal digits, two for each; letters are in lower case
abbrev pub hexadecimal : List ℕ → List ℕ
hexadecimal [] = []
hexadecimal (byte ∷ bytes) = digit_glyph false (byte / 16) ∷ digit_glyph false (byte % 16)
    ∷ hexadecimal bytes

-- the one text of a cursor: that of its key, and then, where there is a mark, `@` and the digits of
-- the mark
abbrev pub cursor_text : KeyValue → Option Mark → List ℕ
cursor_text key None = key_text key
cursor_text key (Some mark) = key_text key ++ codes "@" ++ hexadecimal mark.0

-- a mark has 32 bytes
pub record IsMark (mark : Mark) : Type 0 where
  pub count : length mark.0 ≡ 32
  pub bytes : All (λ (byte : ℕ). byte < 256) mark.0

-- A text is the cursor of a key, which is in range, and perhaps of a mark.
pub record IsCursorOf (key : KeyValue) (mark : Option Mark) (text : List ℕ) : Type 0 where
  pub in_range : IsInRange key
  pub is_mark : IfSome mark IsMark
  pub same : text ≡ cursor_text key mark

-- What reading a text gives: the key, and perhaps the mark, whose cursor it is; and an error
-- exactly where the text isn't a cursor.
abbrev pub IsReading : List ℕ → Result CursorRead BadCursor → Type 0
IsReading text result = MatchResult result (λ read. IsCursorOf read.key read.mark text)
    (λ _. (key : KeyValue) (mark : Option Mark) → ¬ (IsCursorOf key mark text))
