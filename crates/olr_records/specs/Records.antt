-- The records of a CSV text, each a list of fields, as the crate `csv` states them for its default
-- reader.
use Rattle.std.specs.Prelude.{◌≡◌, ℕ, ◌+◌, Bool, true, false, List, [], length, Option, Some, None}
use denote.Ref.{Bor}
unfoldable pub use Rattle.csv.specs.Records.{field_at}
use Rattle.csv.specs.Machine.{ends_at_end}
use Rattle.csv.specs.Reading.{default_config, records, records_from, strip_bom, source_of, has_failed, is_flexible, reader_config, reader_trim, names_headers, reader_headers, took_first, reader_state}
use Rattle.csv.specs.declared.parser.State.{State}
use Rattle.csv.specs.declared.reader.Reader.{Reader}
use Rattle.csv.specs.declared.reader.Trim.TheVariants as trim

-- all the records of a text, the first of which is the header of a file; a byte order mark at the
-- start is no part of them
unfoldable pub records_of : List ℕ → List (List (List ℕ))
records_of text = records default_config (strip_bom text)

-- the bytes that are left of a text, which are known
abbrev pub known : Bor (List ℕ) → Option (List ℕ)
known text = Some text.now

-- the records of what is left from a state on
abbrev pub records_in : State → Option (List ℕ) → List (List (List ℕ))
records_in state None = []
records_in state (Some text) = records_from default_config (length text + 1) state text

-- the records that a reader has left
unfoldable pub records_left : Reader (Bor (List ℕ)) → List (List (List ℕ))
records_left reader = records_in (reader_state reader) (source_of known reader)

-- the same, and none once it is over
abbrev pub records_until : Bool → Reader (Bor (List ℕ)) → List (List (List ℕ))
records_until true reader = []
records_until false reader = records_left reader

-- a reader between two records, with the defaults but for records of any length and no row of
-- headers
pub record IsPlain (reader : Reader (Bor (List ℕ))) : Type 0 where
  pub defaults : reader_config reader ≡ default_config
  pub flexible : is_flexible reader ≡ true
  pub untrimmed : reader_trim reader ≡ trim.None
  pub headers : took_first reader ≡ false → (names_headers reader ≡ false)
      × (reader_headers reader ≡ None)
  pub works : has_failed reader ≡ false
  pub between : ends_at_end (reader_state reader) ≡ false
