-- The ranges of coordinates, in microdegrees: every longitude, and latitudes of at most 80 degrees.
-- The map format and the references that this project reads keep to them.
use Rattle.std.specs.Prelude.{ℤ, pos, neg_ℤ, ◌≤ℤ◌}

-- at most 180 degrees east or west
pub record IsLongitude (lon : ℤ) : Type 0 where
  pub west : neg_ℤ (pos 180000000) ≤ℤ lon
  pub east : lon ≤ℤ pos 180000000

-- at most 80 degrees north or south
pub record IsLatitude (lat : ℤ) : Type 0 where
  pub south : neg_ℤ (pos 80000000) ≤ℤ lat
  pub north : lat ≤ℤ pos 80000000
