-- The texts of coordinates and positions, in degrees. Coordinates are in microdegrees.
use Rattle.std.specs.Prelude.{ℕ, suc, ℤ, pos, negsuc, ◌*◌, ◌/◌, ◌%◌, ◌+◌, Bool, if◌then◌else◌, List, [], ◌∷◌, ◌++◌, codes, decimal, filter, map, nat_lt}
use Rattle.olr_base.specs.Coordinates.{Coordinates}

-- ---- the rest of a degree, less than 1000000 microdegrees

-- the units of the six decimals of a degree, in microdegrees
abbrev pub units : List ℕ
units = 100000 ∷ 10000 ∷ 1000 ∷ 100 ∷ 10 ∷ 1 ∷ []

module _ (rest : ℕ) where
  -- a decimal is written where it, or one behind it, isn't 0
  abbrev pub is_written : ℕ → Bool
  is_written unit = nat_lt 0 (rest % (10 * unit))

  -- the decimal of a unit, as a digit (48 is the code of 0)
  abbrev pub digit_of : ℕ → ℕ
  digit_of unit = 48 + rest / unit % 10

  -- the decimals, without zeros at the end
  abbrev pub decimals_text : List ℕ
  decimals_text = map digit_of (filter is_written units)

  -- what is written of one of them
  abbrev pub decimal_text : ℕ → List ℕ
  decimal_text unit = if is_written unit then digit_of unit ∷ [] else []

-- a point and the decimals, and nothing of whole degrees
abbrev pub rest_text : ℕ → List ℕ
rest_text rest = if nat_lt 0 rest then codes "." ++ decimals_text rest else []

-- ---- coordinates

-- a number of microdegrees that is at least 0
abbrev pub degrees_text : ℕ → List ℕ
degrees_text microdegrees =
    decimal (microdegrees / 1000000) ++ rest_text (microdegrees % 1000000)

-- a coordinate, behind a minus sign where it is below 0
unfoldable pub coordinate_text : ℤ → List ℕ
coordinate_text (pos n) = degrees_text n
coordinate_text (negsuc n) = codes "-" ++ degrees_text (suc n)

-- a position: the longitude, and the latitude
unfoldable pub position_text : Coordinates → List ℕ
position_text position =
    codes "[" ++ coordinate_text position.lon ++ codes "," ++ coordinate_text position.lat
    ++ codes "]"
