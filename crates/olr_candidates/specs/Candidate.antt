-- The candidates of a point of a reference (the rating attributes are those of the white paper's
-- decoder; the numbers are this project's choice).
use Rattle.std.specs.Prelude.{◌≡◌, ℕ, ◌+◌, ◌*◌, ◌/◌, ◌<◌, ◌≤◌, Bool, true, false}
use Rattle.std.specs.Int.{abs_diff}
use Rattle.olr_candidates.specs.Common.{Coordinates, coordinates_of, difference, spot_of, Point, RoadLine, Line, head_of}
use Rattle.olr_candidates.specs.declared.candidate.Candidate.{Candidate}
use Rattle.olr_candidates.specs.declared.projection.Projection.{Projection}
use Rattle.olr_candidates.specs.declared.tolerances.Tolerances.{Tolerances}
use Rattle.olr_candidates.specs.Form.{form_penalty}
use Rattle.olr_candidates.specs.Projection.{polyline_of, IsProjection}

-- A place on a line where a route can begin: before the line's end. At the last point of a
-- reference one where it can end: after the line's start.
abbrev pub IsOnLine : Bool → ℕ → ℕ → Type 0
IsOnLine true length at = 0 < at
IsOnLine false length at = at < length

-- The first condition on a line, by the projection of the point onto it: the distance is at most
-- the radius. The radius has metres, the distance centimetres.
abbrev pub IsWithinRadius : Tolerances → Projection → Type 0
IsWithinRadius tolerances projection = projection.distance ≤ 100 * tolerances.radius

-- the second: the sectors differ by at most the tolerance
abbrev pub IsAlikeInBearing : Tolerances → Point → Projection → Type 0
IsAlikeInBearing tolerances point projection =
    difference projection.sector point.sector ≤ tolerances.bearing

-- the third: the classes differ by at most the tolerance
abbrev pub IsAlikeInClass : Tolerances → Point → Line → Type 0
IsAlikeInClass tolerances point line = abs_diff line.class point.class ≤ tolerances.class

-- All four; the last is that a route can leave from the place along the line (at the last point:
-- arrive there along it).
pub record MeetsConditions (tolerances : Tolerances) (point : Point) (is_last : Bool) (line : Line)
    (projection : Projection) : Type 0 where
  pub near : IsWithinRadius tolerances projection
  pub alike : IsAlikeInBearing tolerances point projection
  pub classed : IsAlikeInClass tolerances point line
  pub on_line : IsOnLine is_last line.length projection.at

-- Its penalty: the distance in hundredths of the radius, rounded down; 10 for each sector and 10
-- for each class of difference; and the form penalty. For classes from 0 to 7 and a candidate it is
-- at most 360.
abbrev pub penalty_of : Tolerances → Point → Line → Projection → ℕ
penalty_of tolerances point line projection =
    projection.distance / tolerances.radius + 10 * difference projection.sector point.sector
    + 10 * abs_diff line.class point.class + form_penalty line.form point.form

-- the line of a rank is this candidate of a point, by the projection of the point onto it
pub record Rates (tolerances : Tolerances) (point : Point) (is_last : Bool) (line : Line) (rank : ℕ)
    (projection : Projection) (candidate : Candidate) : Type 0 where
  pub conditions : MeetsConditions tolerances point is_last line projection
  pub line_is : candidate.place.line ≡ rank
  pub at_is : candidate.place.at ≡ projection.at
  pub penalty_is : candidate.penalty ≡ penalty_of tolerances point line projection

-- a line of a rank is this candidate of a point of the reference that has its first point at the
-- origin
pub record IsCandidate (tolerances : Tolerances) (origin : Coordinates) (point : Point)
    (is_last : Bool) (line : RoadLine) (rank : ℕ) (candidate : Candidate) : Type 0 where
  pub projection : Projection
  pub is_projection : IsProjection (polyline_of origin line) line.length is_last
      (spot_of origin (coordinates_of point.at)) projection
  pub rates : Rates tolerances point is_last (head_of line) rank projection candidate
