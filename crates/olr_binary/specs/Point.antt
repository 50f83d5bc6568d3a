-- The points of a reference: their coordinates and attributes, by its bytes.
use Rattle.std.specs.Prelude.{◌≡◌, ℕ, ◌+◌, ◌<◌, List, length, slice_get, Some, MatchOption}
use Rattle.olr_base.specs.Coordinates.{Coordinates}
use Rattle.olr_binary.specs.declared.point.Point.{Point}
use Rattle.olr_binary.specs.declared.point.Next.{Next}
use Rattle.olr_binary.specs.Bits.{class_of, form_of, sector_of, lowest_of}
use Rattle.olr_binary.specs.Layout.{first_attribute_of, second_attribute_of, third_attribute_of}
use Rattle.olr_binary.specs.Coordinates.{place_of, IsFirstPlace}

-- the attributes of point i on the path to the next point
pub record IsNext (bytes : List ℕ) (i : ℕ) (next : Next) : Type 0 where
  pub lowest : next.lowest ≡ lowest_of (second_attribute_of bytes i)
  pub interval : next.interval ≡ third_attribute_of bytes i

-- the attributes of point i of `count`; only the last has none on a next point
pub record HasAttributes (bytes : List ℕ) (count i : ℕ) (point : Point) : Type 0 where
  pub class : point.class ≡ class_of (first_attribute_of bytes i)
  pub form : point.form ≡ form_of (first_attribute_of bytes i)
  pub sector : point.sector ≡ sector_of (second_attribute_of bytes i)
  pub next : MatchOption point.next (i + 1 ≡ count) (λ next. (i + 1 < count) × IsNext bytes i next)

-- point i of `count`, with the first point at `first`
pub record IsPoint (bytes : List ℕ) (first : Coordinates) (count i : ℕ) (point : Point) : Type 0
  where
    pub lon : point.at.lon ≡ (place_of bytes first i).lon
    pub lat : point.at.lat ≡ (place_of bytes first i).lat
    pub attributes : HasAttributes bytes count i point

-- all the points, in order
pub record ArePoints (bytes : List ℕ) (points : List Point) : Type 0 where
  pub first : Coordinates
  pub place : IsFirstPlace bytes first
  pub each : (i : ℕ) (point : Point) → slice_get points i ≡ Some point
      → IsPoint bytes first (length points) i point
