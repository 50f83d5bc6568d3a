-- What words ask of the lines of a map.
use Rattle.std.specs.Prelude.{◌≡◌, ℕ, ◌∷◌, ◌++◌, ◌≤◌, ◌≤ℤ◌, List, [], Option, None, Some, Bool, Result, Ok, Err, codes, if◌then◌else◌, unwrap_or}
use Rattle.std.specs.Str.{bytes_eq}
use Rattle.olr_lines.specs.LinesInBox.{HasEdges}
use Rattle.olr_lines.specs.declared.geo_box.GeoBox.{GeoBox}
use Rattle.olr_places.specs.declared.limits.PlaceLimit.TheVariants.{Most}
use Rattle.olr_request.specs.declared.fault.Fault.{Fault}
use Rattle.olr_request.specs.declared.fault.Fault.TheVariants.{BadBox, BadNumber}
use Rattle.olr_request.specs.declared.request.LinesRequest.{LinesRequest}
use Rattle.olr_words.specs.RecordWords.{Parts, at_spaces, parts}
use Rattle.olr_words.specs.declared.box_text.Edges.{Edges}
use Rattle.olr_words.specs.declared.words.Given.{Given}

-- ---- what is given

-- how many lines are printed: as given, else 20,000
abbrev pub most_of : Given → ℕ
most_of given = unwrap_or given.numbers.most 20000

-- such a number
abbrev pub IsLineCount : ℕ → Type 0
IsLineCount count = (1 ≤ count) × (count ≤ 200000)

-- the box ends no farther west or south than it begins
abbrev pub IsForwards : Edges → Type 0
IsForwards edges = (edges.west ≤ℤ edges.east) × (edges.south ≤ℤ edges.north)

-- the box with the edges that are given
pub record IsGivenBox (given : Given) (within : GeoBox) : Type 0 where
  pub edges : Edges
  pub given_edges : given.edges ≡ Some edges
  pub has_edges : HasEdges edges.west edges.south edges.east edges.north within

-- the lines that are asked for, by what is given
pub record AreLinesAsked (given : Given) (asked : LinesRequest) : Type 0 where
  pub within : IsGivenBox given asked.within
  pub most : asked.most ≡ most_of given
  pub in_range : IsLineCount (most_of given)
  pub shape : asked.shape ≡ given.extras.shape
  pub format : asked.format ≡ given.format

-- no box is given that ends no farther west or south than it begins
abbrev pub HasNoBox : Given → Type 0
HasNoBox given = (edges : Edges) → given.edges ≡ Some edges → ¬ (IsForwards edges)

-- why that is refused: the number of lines is out of its range; else the box
abbrev pub AreRefusedLines : Given → Fault → Type 0
AreRefusedLines given (BadNumber Most) = ¬ (IsLineCount (most_of given))
AreRefusedLines given BadBox = IsLineCount (most_of given) × HasNoBox given
AreRefusedLines given other = ⊥

-- what is asked, or why it is refused
abbrev pub AreLines : Given → Result LinesRequest Fault → Type 0
AreLines given (Ok asked) = AreLinesAsked given asked
AreLines given (Err why) = AreRefusedLines given why

-- ---- the words of a record

-- the byte between a word and the next one: `=` behind `--box`, whose text may begin with a minus, and
-- a space behind others
abbrev pub byte_behind : List ℕ → ℕ
byte_behind word = if bytes_eq word (codes "--box") then 61 else 32

-- words, each with such a byte before it; before the first one stands this one
abbrev pub joined_behind : ℕ → List (List ℕ) → List ℕ
joined_behind byte [] = []
joined_behind byte (word ∷ words) = byte ∷ (word ++ joined_behind (byte_behind word) words)

-- words, joined by such bytes
abbrev pub joined : List (List ℕ) → List ℕ
joined [] = []
joined (word ∷ words) = word ++ joined_behind (byte_behind word) words

-- the words as they are read: joined so, and cut at each space
abbrev pub joined_parts : List (List ℕ) → Parts
joined_parts words = parts (at_spaces (joined words)) (Some [])

-- the same of words with no reference behind them, which lines have none of
abbrev pub parts_without : Option (List ℕ) → List (List ℕ) → Option Parts
parts_without None words = Some (joined_parts words)
parts_without (Some reference) words = None

abbrev pub line_parts : Parts → Option Parts
line_parts its = parts_without its.reference its.words
