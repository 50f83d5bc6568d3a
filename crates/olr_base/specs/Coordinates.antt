-- A position on the earth as a pair of whole numbers.
use Rattle.std.specs.Prelude.{ℤ}
use Rattle.olr_base.specs.Range.{IsLongitude, IsLatitude}
use Rattle.olr_base.specs.declared.degrees.Degrees.{Degrees}

-- a longitude and a latitude, in microdegrees
pub record Coordinates : Type 0 where
  pub lon : ℤ
  pub lat : ℤ

-- those of a `Degrees`
abbrev pub coordinates_of : Degrees → Coordinates
coordinates_of place = record { lon = place.lon; lat = place.lat }

-- within the ranges of coordinates
pub record IsInRange (place : Coordinates) : Type 0 where
  pub lon : IsLongitude place.lon
  pub lat : IsLatitude place.lat
