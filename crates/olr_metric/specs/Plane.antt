-- The plane of a reference, in centimetres from its origin.
use Rattle.std.specs.Prelude.{ℕ, ℤ, pos, ◌+◌, ◌-◌, ◌*◌, ◌/◌, ◌-ℤ◌, ◌*ℤ◌}
use Rattle.olr_metric.specs.declared.spot.Spot.{Spot}
use Rattle.olr_base.specs.Coordinates.{Coordinates}
use Rattle.olr_metric.specs.Floor.{floor}
use Rattle.olr_metric.specs.Spot.{square}

-- The length of a degree along the parallel of a latitude (in microdegrees), in 1/10000 of one
-- along a meridian, rounded down. It is the cosine of the latitude, by Bhaskara's fraction for d
-- degrees: (32400 - 4 d²) / (32400 + d²). Within 80 degrees of latitude the numerator is positive.
abbrev pub scale_of : ℤ → ℕ
scale_of lat = 10000 * (32400000000000000 - 4 * square lat) / (32400000000000000 + square lat)

-- The spot of coordinates in the plane with this origin. A microdegree of latitude is 11.132
-- centimetres.
abbrev pub spot_of : Coordinates → Coordinates → Spot
spot_of origin place = record {
  x = floor ((place.lon -ℤ origin.lon) *ℤ pos (11132 * scale_of origin.lat)) 10000000;
  y = floor ((place.lat -ℤ origin.lat) *ℤ pos 11132) 1000;
}
