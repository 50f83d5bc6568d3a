-- The projection of a point of a reference onto a line of the map, measured in the plane of the
-- reference.
use Rattle.std.specs.Prelude.{◌≡◌, ℕ, ◌+◌, ◌-◌, ◌*◌, ◌/◌, Bool, cond, min, List, map, Option, MatchOption}
use Rattle.olr_metric.specs.declared.polyline.Near.{Near}
use Rattle.olr_metric.specs.declared.spot.Spot.{Spot}
use Rattle.olr_candidates.specs.Common.{Coordinates, spot_of, RoadLine}
use Rattle.olr_metric.specs.Polyline.{arc, IsAlong, IsNearest}
use Rattle.olr_metric.specs.Sector.{direction, zero_direction, IsSector}
use Rattle.olr_candidates.specs.declared.projection.Projection.{Projection}

-- the polyline of a line, in the plane that has its origin at a place
abbrev pub polyline_of : Coordinates → RoadLine → List Spot
polyline_of origin line = map (spot_of origin) line.points

-- The bearing at arc t of a polyline is measured to the spot at this arc: 20 metres further on, or
-- at the end if that comes first; at the last point of a reference backwards, 20 metres before it,
-- or at the start if that comes first. Arcs are in centimetres.
abbrev pub bearing_arc : Bool → ℕ → ℕ → ℕ
bearing_arc is_last t whole = cond is_last (t - 2000) (min (t + 2000) whole)

-- the bearing of a polyline at a place on it: the sector of the direction to that spot; there is
-- none where both are the same spot
pub record HasBearing (polyline : List Spot) (is_last : Bool) (near : Near)
    (sector : Option ℕ) : Type 0 where
  pub ahead : Spot
  pub along : IsAlong polyline (bearing_arc is_last near.arc (arc polyline)) ahead
  pub sector_of : MatchOption sector (direction near.spot ahead ≡ zero_direction)
      (IsSector (direction near.spot ahead))

-- The projection of a spot onto the polyline of a line of so many decimetres: its distance in
-- centimetres; the position of the nearest place, in decimetres from the start, as the share of the
-- length that its arc is of the whole arc, rounded down; and the bearing there.
pub record IsProjection (polyline : List Spot) (length : ℕ) (is_last : Bool) (p : Spot)
    (projection : Projection) : Type 0 where
  pub near : Near
  pub nearest : IsNearest polyline p near
  pub distance_is : projection.distance ≡ near.distance
  pub at_is : projection.at ≡ near.arc * length / arc polyline
  pub bearing : HasBearing polyline is_last near projection.sector
