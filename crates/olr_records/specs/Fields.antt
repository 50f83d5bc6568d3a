-- What the fields of a map's records spell, according to this project's map format
-- (docs/SPECIFICATION.md, "The files of a map").
use Rattle.std.specs.Prelude.{◌≡◌, ℕ, ◌≤◌, List, ◌∷◌, length, ℤ, pos, neg_ℤ, ◌⊎◌}
use Rattle.std.specs.Str.Parse.{IsNumeral, digits_value}
use Rattle.olr_base.specs.Range.{IsLongitude, IsLatitude}

-- a number: 1 to 16 decimal digits and nothing else; zeros may lead
pub record IsNumber (text : List ℕ) (n : ℕ) : Type 0 where
  pub digits : IsNumeral 10 text
  pub short : length text ≤ 16
  pub value : n ≡ digits_value 10 text

-- '-' and a number, whose negative it is
pub record IsNegative (text : List ℕ) (z : ℤ) : Type 0 where
  pub digits : List ℕ
  pub n : ℕ
  pub minus : text ≡ 45 ∷ digits
  pub number : IsNumber digits n
  pub value : z ≡ neg_ℤ (pos n)

-- a signed number: a number, or a negative one
abbrev pub IsSignedNumber : List ℕ → ℤ → Type 0
IsSignedNumber text z = ((n : ℕ) × IsNumber text n × (z ≡ pos n)) ⊎ IsNegative text z

-- a number of a range
pub record IsNumberWithin (least greatest : ℕ) (text : List ℕ) (n : ℕ) : Type 0 where
  pub number : IsNumber text n
  pub above : least ≤ n
  pub below : n ≤ greatest

-- the id of a node or of a line
abbrev pub IsId : List ℕ → ℕ → Type 0
IsId = IsNumberWithin 1 9007199254740992

-- a class or a form of way
abbrev pub IsKind : List ℕ → ℕ → Type 0
IsKind = IsNumberWithin 0 7

-- the length of a line, in decimetres; 0 is a length here, and in a map a fault of its own
-- (`ZeroLength`)
abbrev pub IsLength : List ℕ → ℕ → Type 0
IsLength = IsNumberWithin 0 10000000

-- a longitude, in microdegrees
pub record SpellsLongitude (text : List ℕ) (lon : ℤ) : Type 0 where
  pub number : IsSignedNumber text lon
  pub range : IsLongitude lon

-- a latitude, in microdegrees
pub record SpellsLatitude (text : List ℕ) (lat : ℤ) : Type 0 where
  pub number : IsSignedNumber text lat
  pub range : IsLatitude lat
