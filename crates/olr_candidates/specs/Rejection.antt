-- Why a line is no candidate of a point: the first of the four conditions that it fails.
use Rattle.std.specs.Prelude.{◌≡◌, ◌*◌, ◌<◌, Bool}
use Rattle.std.specs.Int.{abs_diff}
use Rattle.olr_candidates.specs.Common.{Coordinates, coordinates_of, difference, spot_of, Point, RoadLine, Line, head_of}
use Rattle.olr_candidates.specs.declared.projection.Projection.{Projection}
use Rattle.olr_candidates.specs.declared.rejection.Rejection.{Rejection}
use Rattle.olr_candidates.specs.declared.rejection.Rejection.TheVariants.{Radius, Bearing, Class, Position}
use Rattle.olr_candidates.specs.declared.tolerances.Tolerances.{Tolerances}
use Rattle.olr_candidates.specs.Candidate.{IsWithinRadius, IsAlikeInBearing, IsAlikeInClass, IsOnLine}
use Rattle.olr_candidates.specs.Projection.{polyline_of, IsProjection}

-- The first of the conditions (`MeetsConditions`) that a line fails, with what it was tested by:
-- this one fails, and each before it holds.
abbrev pub IsFirstFailed : Tolerances → Point → Bool → Line → Projection → Rejection → Type 0
IsFirstFailed tolerances point is_last line projection (Radius distance) =
    (distance ≡ projection.distance) × (100 * tolerances.radius < distance)
IsFirstFailed tolerances point is_last line projection (Bearing sectors) =
    (sectors ≡ difference projection.sector point.sector) × (tolerances.bearing < sectors)
    × IsWithinRadius tolerances projection
IsFirstFailed tolerances point is_last line projection (Class classes) =
    (classes ≡ abs_diff line.class point.class) × (tolerances.class < classes)
    × IsWithinRadius tolerances projection
    × IsAlikeInBearing tolerances point projection
IsFirstFailed tolerances point is_last line projection (Position at) =
    (at ≡ projection.at) × (IsOnLine is_last line.length at → ⊥)
    × IsWithinRadius tolerances projection
    × IsAlikeInBearing tolerances point projection
    × IsAlikeInClass tolerances point line

-- why a line is no candidate of a point of the reference that has its first point at the origin
pub record IsRejection (tolerances : Tolerances) (origin : Coordinates) (point : Point)
    (is_last : Bool) (line : RoadLine) (rejection : Rejection) : Type 0 where
  pub projection : Projection
  pub is_projection : IsProjection (polyline_of origin line) line.length is_last
      (spot_of origin (coordinates_of point.at)) projection
  pub failed : IsFirstFailed tolerances point is_last (head_of line) projection rejection
