-- The lines nearest to a point of a reference, candidates or not, and the conditions that each of
-- them fails.
use Rattle.std.specs.Prelude.{◌≡◌, ℕ, ◌<◌, ◌⊎◌, Bool, false, MatchBool, min, List, length, Option, Some, MatchOption, slice_get, All, AllPairs, Contains}
use Rattle.olr_candidates.specs.Common.{Coordinates, coordinates_of, spot_of, Point, Reference, RoadLine, Line, head_of}
use Rattle.olr_candidates.specs.declared.near.FailedConditions.{FailedConditions}
use Rattle.olr_candidates.specs.declared.near.NearLine.{NearLine}
use Rattle.olr_candidates.specs.declared.projection.Projection.{Projection}
use Rattle.olr_candidates.specs.declared.tolerances.Tolerances.{Tolerances}
use Rattle.olr_candidates.specs.Candidate.{IsWithinRadius, IsAlikeInBearing, IsAlikeInClass, IsOnLine, MeetsConditions, penalty_of}
use Rattle.olr_candidates.specs.Points.{HoldsAt}
use Rattle.olr_candidates.specs.Projection.{polyline_of, IsProjection}

-- ---- a line near a point

-- the flag is raised exactly where the condition fails
abbrev pub FailsExactly : Bool → Type 0 → Type 0
FailsExactly flag Condition = MatchBool flag (Condition → ⊥) Condition

-- which of the four conditions on a candidate (`MeetsConditions`) a line fails, by the projection
-- of the point onto it
pub record AreFailed (tolerances : Tolerances) (point : Point) (is_last : Bool) (line : Line)
    (projection : Projection) (failed : FailedConditions) : Type 0 where
  pub radius : FailsExactly failed.radius (IsWithinRadius tolerances projection)
  pub bearing : FailsExactly failed.bearing (IsAlikeInBearing tolerances point projection)
  pub class : FailsExactly failed.class (IsAlikeInClass tolerances point line)
  pub end : FailsExactly failed.end (IsOnLine is_last line.length projection.at)

-- none of them
abbrev pub none_failed : FailedConditions
none_failed = record { radius = false; bearing = false; class = false; end = false }

-- the penalty of a line that meets all four conditions, and none where it fails one
abbrev pub HasPenalty : Tolerances → Point → Bool → Line → Projection → Option ℕ → Type 0
HasPenalty tolerances point is_last line projection penalty = MatchOption penalty
    (MeetsConditions tolerances point is_last line projection → ⊥)
    (λ value. MeetsConditions tolerances point is_last line projection
    × (value ≡ penalty_of tolerances point line projection))

-- what is said of the line of a rank, by the projection of the point onto it: the projection, the
-- conditions that the line fails, and its penalty
pub record Describes (tolerances : Tolerances) (point : Point) (is_last : Bool) (line : Line)
    (rank : ℕ) (projection : Projection) (near : NearLine) : Type 0 where
  pub line_is : near.line ≡ rank
  pub distance_is : near.distance ≡ projection.distance
  pub at_is : near.at ≡ projection.at
  pub sector_is : near.sector ≡ projection.sector
  pub failed : AreFailed tolerances point is_last line projection near.failed
  pub penalty : HasPenalty tolerances point is_last line projection near.penalty

-- a line of a rank is this line near a point of the reference that has its first point at the
-- origin
pub record IsNearLine (tolerances : Tolerances) (origin : Coordinates) (point : Point)
    (is_last : Bool) (line : RoadLine) (rank : ℕ) (near : NearLine) : Type 0 where
  pub projection : Projection
  pub is_projection : IsProjection (polyline_of origin line) line.length is_last
      (spot_of origin (coordinates_of point.at)) projection
  pub describes : Describes tolerances point is_last (head_of line) rank projection near

-- ---- the nearest lines

-- The order of lines near a point: by distance and then by rank. In a map the ranks of lines rise
-- with their ids, so there it is the order by distance and then by id.
abbrev pub IsNearer : NearLine → NearLine → Type 0
IsNearer a b = (a.distance < b.distance) ⊎ ((a.distance ≡ b.distance) × (a.line < b.line))

module _ (tolerances : Tolerances) (origin : Coordinates) (point : Point) (is_last : Bool)
    (lines : List RoadLine) where
  -- the line of a rank is this line near the point
  abbrev pub IsNearLineAt : ℕ → NearLine → Type 0
  IsNearLineAt rank near = (line : RoadLine) × (slice_get lines rank ≡ Some line)
      × IsNearLine tolerances origin point is_last line rank near

  -- some line of the map is
  abbrev pub IsOneNear : NearLine → Type 0
  IsOneNear near = (rank : ℕ) × IsNearLineAt rank near

  -- The first lines of the map in this order, `count` of them, or all where the map has fewer:
  -- every line is one of them or comes after each of them.
  pub record AreNearest (count : ℕ) (nearest : List NearLine) : Type 0 where
    pub only : All IsOneNear nearest
    pub rise : AllPairs IsNearer nearest
    pub counted : length nearest ≡ min count (length lines)
    pub others : (near : NearLine) → IsOneNear near → Contains nearest near
        ⊎ All (λ (item : NearLine). IsNearer item near) nearest

-- ---- the points of a reference, counted from 0; the first one is the origin of the plane

module _ (tolerances : Tolerances) (reference : Reference) (lines : List RoadLine) where
  -- the line of a rank is this line near a point
  abbrev pub IsNearLineOf : ℕ → ℕ → NearLine → Type 0
  IsNearLineOf index rank near = HoldsAt reference index
      (λ origin point is_last. IsNearLineAt tolerances origin point is_last lines rank near)

  -- the first `count` lines of the map by their distance from a point, or all where the map has
  -- fewer
  abbrev pub AreNearestOf : ℕ → ℕ → List NearLine → Type 0
  AreNearestOf index count nearest = HoldsAt reference index
      (λ origin point is_last. AreNearest tolerances origin point is_last lines count nearest)
