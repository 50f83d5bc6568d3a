-- What the record of a line says. TAB is the byte 9.
use Rattle.std.specs.Prelude.{◌≡◌, ◌≢◌, ℕ, ◌<◌, ◌≤◌, List, [], ◌∷◌, ◌++◌, length, Option, None, Some, option_map, All, IsUtf8}
use denote.Ref.{Bor}
use Rattle.olr_messages.specs.Lines.{record_of}
use Rattle.olr_messages.specs.declared.content.Content.{Content}
use Rattle.olr_messages.specs.declared.content.Content.TheVariants as content

-- what a record says: nothing; or it is too long; or it isn't text; or it has a text, with a key or
-- without one
pub data Message : Type 0 where
  Empty : Message
  Long : Message
  NotText : Message
  Text : Option (List ℕ) → List ℕ → Message

-- the key is what stands before the first TAB, and the text is what stands behind it; without a TAB
-- there is no key
abbrev pub IsSplitAtTab : List ℕ → Option (List ℕ) → List ℕ → Type 0
IsSplitAtTab bytes None text = (text ≡ bytes) × All (λ byte. byte ≢ 9) bytes
IsSplitAtTab bytes (Some key) text = (bytes ≡ key ++ 9 ∷ text) × All (λ byte. byte ≢ 9) key

-- a record, of at most 65536 bytes, of UTF-8, with at least one byte
pub record IsText (bytes : List ℕ) : Type 0 where
  pub not_empty : bytes ≢ []
  pub not_long : length bytes ≤ 65536
  pub utf8 : IsUtf8 bytes

-- the message of a record
abbrev pub IsMessage : List ℕ → Message → Type 0
IsMessage bytes Empty = bytes ≡ []
IsMessage bytes Long = 65536 < length bytes
IsMessage bytes NotText = (length bytes ≤ 65536) × ¬ (IsUtf8 bytes)
IsMessage bytes (Text key text) = IsText bytes × IsSplitAtTab bytes key text

-- the message of a line, whose record is the line without its CR
abbrev pub IsMessageOfLine : List ℕ → Message → Type 0
IsMessageOfLine line message = IsMessage (record_of line) message

-- the message that a content is
abbrev pub message_of : Content → Message
message_of content.Empty = Empty
message_of content.Long = Long
message_of content.NotText = NotText
message_of (content.Text key text) =
    Text (option_map (λ (part : Bor (List ℕ)). part.now) key) text.now
