-- The coordinates of a reference's points, in microdegrees (OpenLR white paper 1.5, binary format
-- version 3). Numbers are signed, with the most significant byte first. They may be out of range
-- here.
use Rattle.std.specs.Prelude.{ℕ, zero, suc, ◌+◌, ◌*◌, ◌/◌, ◌^◌, nat_lt, if◌then◌else◌, List, slice_index, ℤ, pos, neg_ℤ, ◌+ℤ◌, ◌-ℤ◌, ◌*ℤ◌, ◌<ℤ◌}
use Rattle.olr_base.specs.Coordinates.{Coordinates}

-- the number that `size` bits encode as two's complement
abbrev pub signed : ℕ → ℕ → ℤ
signed size n = if nat_lt n (2 ^ size / 2) then pos n else pos n -ℤ pos (2 ^ size)

-- the signed number in two bytes from byte i on
abbrev pub two_bytes_at : List ℕ → ℕ → ℤ
two_bytes_at bytes i = signed 16 (256 * slice_index bytes i + slice_index bytes (i + 1))

-- the signed number in three bytes from byte i on
abbrev pub three_bytes_at : List ℕ → ℕ → ℤ
three_bytes_at bytes i =
    signed 24 (65536 * slice_index bytes i + 256 * slice_index bytes (i + 1)
    + slice_index bytes (i + 2))

-- 1, 0 or -1
abbrev pub sign : ℤ → ℤ
sign (pos zero) = pos 0
sign (pos (suc n)) = pos 1
sign _ = neg_ℤ (pos 1)

-- An absolute coordinate i means (i - sign i / 2) * 360 / 2 ^ 24 degrees. This is 2 ^ 22 times that
-- in microdegrees.
abbrev pub scaled : ℤ → ℤ
scaled i = (pos 2 *ℤ i -ℤ sign i) *ℤ pos 45000000

-- v is the whole number of microdegrees nearest to the absolute coordinate i: less than half a
-- microdegree away.
pub record IsMicrodegreesOf (i v : ℤ) : Type 0 where
  pub above : (pos 2 *ℤ (v *ℤ pos (2 ^ 22) -ℤ scaled i)) <ℤ pos (2 ^ 22)
  pub below : (pos 2 *ℤ (scaled i -ℤ v *ℤ pos (2 ^ 22))) <ℤ pos (2 ^ 22)

-- the first point lies at its absolute coordinates
pub record IsFirstPlace (bytes : List ℕ) (first : Coordinates) : Type 0 where
  pub lon : IsMicrodegreesOf (three_bytes_at bytes 1) first.lon
  pub lat : IsMicrodegreesOf (three_bytes_at bytes 4) first.lat

-- coordinates moved east and north by numbers of 1/100000 degree
abbrev pub moved : Coordinates → ℤ → ℤ → Coordinates
moved from east north = record {
  lon = from.lon +ℤ pos 10 *ℤ east;
  lat =
      from.lat +ℤ pos 10 *ℤ north;
}

-- the coordinates of point i, with the first point at `first`: each further point is relative to
-- the one before it
abbrev pub place_of : List ℕ → Coordinates → ℕ → Coordinates
place_of bytes first zero = first
place_of bytes first (suc i) =
    moved (place_of bytes first i) (two_bytes_at bytes (3 + 7 * suc i))
    (two_bytes_at bytes (5 + 7 * suc i))
