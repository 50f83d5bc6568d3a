-- What the file of a confidence says: members of an object of JSON, all numbers of which are whole.
-- Other members may stand beside them.
use Rattle.std.specs.Prelude.{◌≡◌, ℕ, ℤ, List, codes, IsUtf8, Option, None, Some, option_and_then}
use Rattle.serde_json.specs.Data.{Data, null}
use Rattle.serde_json.specs.Find.{as_i64, as_number, as_u64, get}
use Rattle.serde_json.specs.Read.{read as read_text}
use Rattle.olr_confidence.specs.declared.confidence.AskedNumbers.{AskedNumbers}
use Rattle.olr_confidence.specs.declared.confidence.Confidence.{Confidence}
use Rattle.olr_confidence.specs.declared.confidence.MapRange.{MapRange}
use Rattle.olr_confidence.specs.declared.confidence.Weights.{Weights}

-- the number of a member that isn't below 0
abbrev pub whole_at : List ℕ → Data → Option ℕ
whole_at name content = option_and_then as_u64 (option_and_then as_number (get name content))

-- the number of a member
abbrev pub number_at : List ℕ → Data → Option ℤ
number_at name content = option_and_then as_i64 (option_and_then as_number (get name content))

-- the numbers under which answers were given, of which all but the last are tolerances
pub record AreAsked (content tolerances : Data) (asked : AskedNumbers) : Type 0 where
  pub radius : whole_at (codes "radius") tolerances ≡ Some asked.radius
  pub bearing : whole_at (codes "bearing") tolerances ≡ Some asked.bearing
  pub class : whole_at (codes "class") tolerances ≡ Some asked.class
  pub lowest : whole_at (codes "lowest") tolerances ≡ Some asked.lowest
  pub percent : whole_at (codes "percent") tolerances ≡ Some asked.percent
  pub slack : whole_at (codes "slack") tolerances ≡ Some asked.slack
  pub apart : whole_at (codes "apart") content ≡ Some asked.apart

-- what each difference weighs: each number is in the range that weights have
pub record AreWeights (content : Data) (weights : Weights) : Type 0 where
  pub distance : whole_at (codes "distance") content ≡ Some weights.distance
  pub direction : whole_at (codes "direction") content ≡ Some weights.direction
  pub leg : whole_at (codes "leg") content ≡ Some weights.leg
  pub behind : whole_at (codes "behind") content ≡ Some weights.behind
  pub turning_back : whole_at (codes "turning_back") content ≡ Some weights.turning_back
  pub none : number_at (codes "none") content ≡ Some weights.none
  pub none_points : number_at (codes "none_points") content ≡ Some weights.none_points
  pub none_lines : number_at (codes "none_lines") content ≡ Some weights.none_lines
  pub none_length : number_at (codes "none_length") content ≡ Some weights.none_length

-- how different the sender's map is
pub record IsRange (content : Data) (range : MapRange) : Type 0 where
  pub value : whole_at (codes "value") content ≡ Some range.value
  pub low : whole_at (codes "low") content ≡ Some range.low
  pub high : whole_at (codes "high") content ≡ Some range.high

-- null where it isn't known
abbrev pub IsRangeOrNull : Data → Option MapRange → Type 0
IsRangeOrNull content None = content ≡ null
IsRangeOrNull content (Some range) = IsRange content range

-- the members of a file that say it
pub record HasAsked (content : Data) (asked : AskedNumbers) : Type 0 where
  pub tolerances : Data
  pub tolerances_is : get (codes "tolerances") content ≡ Some tolerances
  pub are_asked : AreAsked content tolerances asked

pub record HasWeights (content : Data) (weights : Weights) : Type 0 where
  pub member : Data
  pub member_is : get (codes "weights") content ≡ Some member
  pub are_weights : AreWeights member weights

pub record HasRange (content : Data) (range : Option MapRange) : Type 0 where
  pub member : Data
  pub member_is : get (codes "map_differs") content ≡ Some member
  pub is_range : IsRangeOrNull member range

-- the file says this
pub record IsConfidence (content : Data) (confidence : Confidence) : Type 0 where
  pub version : whole_at (codes "version") content ≡ Some 3
  pub asked : HasAsked content confidence.asked
  pub weights : HasWeights content confidence.weights
  pub map_differs : HasRange content confidence.map_differs

-- the bytes of a file are the text of JSON that says this
pub record IsFileOf (bytes : List ℕ) (confidence : Confidence) : Type 0 where
  pub content : Data
  pub is_utf8 : IsUtf8 bytes
  pub content_is : read_text bytes ≡ Some content
  pub is_confidence : IsConfidence content confidence
