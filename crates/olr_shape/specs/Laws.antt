-- Laws of spots. Each is the contract of a public function that does nothing at run time.
use Rattle.std.specs.Prelude.{◌≡◌, ◌↔◌, ℕ, ◌-◌, Some, length, slice_get}
use Rattle.olr_base.specs.Coordinates.{Coordinates}
use Rattle.olr_base.specs.Range.{IsLatitude}
use Rattle.olr_metric.specs.Plane.{spot_of as plane_spot_of}
use Rattle.olr_metric.specs.Spot.{distance}
use Rattle.olr_metric.specs.declared.spot.Spot.{Spot}
use Rattle.olr_road.specs.Place.{IsPlace}
use Rattle.olr_road.specs.RoadMap.{IsSoundMap, RoadLine, RoadMap}
use Rattle.olr_road.specs.declared.place.Place.{Place}
use Rattle.olr_shape.specs.Position.{spot_on}

-- each place on a map has a spot
abbrev pub PlacesHaveSpots : Type 0
PlacesHaveSpots = (road : RoadMap) (place : Place) → IsSoundMap road → IsPlace road place
    → (spot : Coordinates) × (spot_on road place ≡ Some spot)

-- the spot at the start of a line is its first point
abbrev pub StartsAtFirstPoint : Type 0
StartsAtFirstPoint = (road : RoadMap) (rank : ℕ) (line : RoadLine) → IsSoundMap road
    → slice_get road.lines rank ≡ Some line
    → spot_on road (record { line = rank; at = 0 }) ≡ slice_get line.points 0

-- and that at its length is its last point
abbrev pub EndsAtLastPoint : Type 0
EndsAtLastPoint = (road : RoadMap) (rank : ℕ) (line : RoadLine) → IsSoundMap road
    → slice_get road.lines rank ≡ Some line
    → spot_on road (record { line = rank; at = line.length })
    ≡ slice_get line.points (length line.points - 1)

-- ---- what these rest on

-- unequal coordinates have unequal spots in a plane, and unequal spots are apart
pub record PlaneLaws : Type 0 where
  pub one_place : (origin a b : Coordinates) → IsLatitude origin.lat
      → plane_spot_of origin a ≡ plane_spot_of origin b → a ≡ b
  pub distances : (a b : Spot) → (distance a b ≡ 0) ↔ (a ≡ b)
