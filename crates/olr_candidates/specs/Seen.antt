-- The lines around a point of a reference, seen once, with the projection of the point onto each.
use Rattle.std.specs.Prelude.{◌≡◌, ◌≢◌, ℕ, ◌*◌, ◌<◌, ◌≤◌, Bool, List, length, map, Some, slice_get, All, AllPairs, Contains}
use Rattle.olr_candidates.specs.Common.{Coordinates, coordinates_of, spot_of, Point, Reference, points_of, RoadLine}
use Rattle.olr_candidates.specs.declared.projection.Projection.{Projection}
use Rattle.olr_candidates.specs.declared.seen.SeenLine.{SeenLine}
use Rattle.olr_candidates.specs.declared.surroundings.Surroundings.{Surroundings}
use Rattle.olr_candidates.specs.Points.{HoldsAt}
use Rattle.olr_candidates.specs.Projection.{polyline_of, IsProjection}

-- the lines of some that were seen, by rank
abbrev pub ranks_of : List SeenLine → List ℕ
ranks_of seen = map (λ (one : SeenLine). one.line) seen

-- ---- a point of the reference that has its first point at the origin

module _ (origin : Coordinates) (point : Point) (is_last : Bool) (lines : List RoadLine) where
  -- the projection of the point onto the line of a rank
  abbrev pub IsProjectionAt : ℕ → Projection → Type 0
  IsProjectionAt rank projection = (line : RoadLine) × (slice_get lines rank ≡ Some line)
      × IsProjection (polyline_of origin line) line.length is_last
      (spot_of origin (coordinates_of point.at)) projection

  -- ranks of lines, each once, and among them those of all lines at most so many metres away from
  -- the point
  pub record HoldAllWithin (radius : ℕ) (ranks : List ℕ) : Type 0 where
    pub once : AllPairs (λ (a b : ℕ). a ≢ b) ranks
    pub known : All (λ (rank : ℕ). rank < length lines) ranks
    pub each : (rank : ℕ) (projection : Projection) → IsProjectionAt rank projection
        → projection.distance ≤ 100 * radius → Contains ranks rank

  -- a line at most so many metres away from the point, with the projection of the point onto it
  pub record IsSeen (reach : ℕ) (one : SeenLine) : Type 0 where
    pub projection : IsProjectionAt one.line one.projection
    pub within : one.projection.distance ≤ 100 * reach

  -- all such lines, each once
  pub record AreSeen (reach : ℕ) (seen : List SeenLine) : Type 0 where
    pub only : All (IsSeen reach) seen
    pub covers : HoldAllWithin reach (ranks_of seen)

-- ---- the points of a reference, counted from 0; the first one is the origin of the plane

-- all lines at most so many metres away from a point, each once
abbrev pub AreSeenFrom : Reference → List RoadLine → ℕ → ℕ → List SeenLine → Type 0
AreSeenFrom reference lines index reach seen = HoldsAt reference index
    (λ origin point is_last. AreSeen origin point is_last lines reach seen)

-- the lines that were seen from each point
abbrev pub seen_of : Surroundings → List (List SeenLine)
seen_of surroundings = map (λ seen. seen.items) surroundings.points.items

-- of every point of a reference, point by point, all lines at most as many metres away as the
-- surroundings reach
pub record AreSurroundings (reference : Reference) (lines : List RoadLine)
    (surroundings : Surroundings) : Type 0 where
  pub each : (index : ℕ) (seen : List SeenLine) → slice_get (seen_of surroundings) index ≡ Some seen
      → AreSeenFrom reference lines index surroundings.reach seen
  pub all : length (seen_of surroundings) ≡ length (points_of reference)
