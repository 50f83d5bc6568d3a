-- The line of a record of the input: one JSON object and a line feed.
use Rattle.std.specs.Prelude.{◌≡◌, ℕ, List, [], ◌∷◌, ◌++◌, Option, None, Some, true, codes, decimal, option_map}
use Rattle.std.specs.Borrow.{Bor}
use Rattle.json.specs.Token.{Token}
use Rattle.json.specs.Token as token
use Rattle.serde_json.specs.Data.{Data, Members, null, number, unsigned, string, object, member, no_members}
use Rattle.serde_json.specs.Written.{compact_text, members_text}

-- the bytes of a text, if there is one
abbrev pub bytes_of : Option (Bor (List ℕ)) → Option (List ℕ)
bytes_of text = option_map (λ (bytes : Bor (List ℕ)). bytes.now) text

-- a text, or null where there is none
abbrev pub text_or_null : Option (List ℕ) → Data
text_or_null None = null
text_or_null (Some text) = string text

-- the members behind the answer: the fault in place of it, the key, and the number
abbrev pub members_behind : Option (List ℕ) → Option (List ℕ) → ℕ → Members
members_behind fault key record_number =
    member (codes "fault") (text_or_null fault) (
    member (codes "key") (text_or_null key) (
    member (codes "record") (number (unsigned record_number)) no_members))

-- The line of a record with these bytes as its answer (`members_text` ends with the closing brace).
abbrev pub line_text : List ℕ → Option (List ℕ) → Option (List ℕ) → ℕ → List ℕ
line_text answer fault key record_number =
    codes "{\"answer\":" ++ (answer ++ members_text true (members_behind fault key record_number))
    ++ codes "\n"

-- the object of a record whose answer is this value
abbrev pub record_object : Data → Option (List ℕ) → Option (List ℕ) → ℕ → Data
record_object answer fault key record_number =
    object (member (codes "answer") answer (members_behind fault key record_number))

-- The line of a record whose answer is the text of a value is the line of this object.
abbrev pub LineIsObject : Type 0
LineIsObject = (answer : Data) (fault key : Option (List ℕ)) (record_number : ℕ)
    → line_text (compact_text answer) fault key record_number
    ≡ compact_text (record_object answer fault key record_number) ++ codes "\n"

-- ---- the members behind the answer, as the tokens that are written

abbrev pub text_token : Option (List ℕ) → Token
text_token None = token.null
text_token (Some text) = token.string text

-- they end with the end of the object
abbrev pub tokens_behind : Option (List ℕ) → Option (List ℕ) → ℕ → List Token
tokens_behind fault key record_number =
    token.key (codes "fault") ∷ text_token fault ∷ token.key (codes "key") ∷ text_token key
    ∷ token.key (codes "record") ∷ token.number (decimal record_number) ∷ token.end_object ∷ []
