-- What is asked of a map: the candidates of one point of a reference, and the lines around it.
use Rattle.std.specs.Prelude.{◌≡◌, ◌≢◌, ℕ, ◌+◌, ◌*◌, ◌≤◌, ◌==◌, List, length, Some, slice_get, All, AllPairs, Contains, ℤ, pos, ◌+ℤ◌, ◌-ℤ◌, ◌≤ℤ◌}
use Rattle.olr_candidates.specs.Common.{Coordinates, coordinates_of, spot_of, Point, Reference, points_of, RoadLine}
use Rattle.olr_base.specs.Coordinates.{IsInRange}
use Rattle.olr_road.specs.declared.BoundingBox.{BoundingBox}
use Rattle.olr_candidates.specs.declared.candidate.Candidate.{Candidate}
use Rattle.olr_candidates.specs.declared.projection.Projection.{Projection}
use Rattle.olr_candidates.specs.declared.query.Query.{Query}
use Rattle.olr_candidates.specs.declared.seen.SeenLine.{SeenLine}
use Rattle.olr_candidates.specs.declared.tolerances.Tolerances.{Tolerances}
use Rattle.olr_candidates.specs.declared.rejection.Rejection.{Rejection}
use Rattle.olr_candidates.specs.Seen.{AreSeen, IsProjectionAt, IsSeen, ranks_of}
use Rattle.olr_candidates.specs.Seen.{HoldAllWithin as HoldWithin}
use Rattle.olr_candidates.specs.Candidates.{IsBefore, IsCandidateAt, IsRejectionAt, IsOneOf, AreCandidates, AreTooMany}

-- the query for a point of a reference, counted from 0
pub record IsQueryOf (tolerances : Tolerances) (reference : Reference) (index : ℕ)
    (query : Query) : Type 0 where
  pub first : Point
  pub first_is : slice_get (points_of reference) 0 ≡ Some first
  pub point_is : slice_get (points_of reference) index ≡ Some query.point
  pub plane_is : query.plane ≡ first.at
  pub last_is : query.is_last ≡ (index + 1 == length (points_of reference))
  pub tolerances_is : query.tolerances ≡ tolerances

module _ (query : Query) (lines : List RoadLine) where
  -- the projection of the query's point onto the line of a rank
  abbrev pub Projects : ℕ → Projection → Type 0
  Projects rank projection = IsProjectionAt (coordinates_of query.plane) query.point query.is_last
      lines rank projection

  -- ranks of lines, each once, and among them those of all lines at most so many metres away from
  -- the query's point
  abbrev pub HoldAllWithin : ℕ → List ℕ → Type 0
  HoldAllWithin radius ranks = HoldWithin (coordinates_of query.plane) query.point query.is_last
      lines radius ranks

  -- all lines at most so many metres away from the query's point
  abbrev pub Sees : ℕ → List SeenLine → Type 0
  Sees reach seen = AreSeen (coordinates_of query.plane) query.point query.is_last lines reach seen

  -- all lines within the query's radius, and maybe others farther away
  abbrev pub SeesRadius : List SeenLine → Type 0
  SeesRadius seen = (reach : ℕ) × (query.tolerances.radius ≤ reach) × Sees reach seen

  -- all lines at most so many metres away from the query's point among those of these ranks, each
  -- once
  pub record AreSeenAmong (reach : ℕ) (ranks : List ℕ) (seen : List SeenLine) : Type 0 where
    pub only : All (IsSeen (coordinates_of query.plane) query.point query.is_last lines reach) seen
    pub once : AllPairs (λ (a b : ℕ). a ≢ b) (ranks_of seen)
    pub among : All (λ (rank : ℕ). Contains ranks rank) (ranks_of seen)
    pub each : (rank : ℕ) (projection : Projection) → Contains ranks rank
        → Projects rank projection → projection.distance ≤ 100 * reach
        → Contains (ranks_of seen) rank

  -- the line of a rank is this candidate of the query's point
  abbrev pub Finds : ℕ → Candidate → Type 0
  Finds rank candidate = IsCandidateAt query.tolerances (coordinates_of query.plane) query.point
      query.is_last lines rank candidate

  -- the line of a rank is no candidate of the query's point for this reason
  abbrev pub Rejects : ℕ → Rejection → Type 0
  Rejects rank rejection = IsRejectionAt query.tolerances (coordinates_of query.plane) query.point
      query.is_last lines rank rejection

  -- exactly the candidates of the query's point, in their order
  abbrev pub Answers : List Candidate → Type 0
  Answers candidates = AreCandidates query.tolerances (coordinates_of query.plane) query.point
      query.is_last lines candidates

  -- the query's point has more than 64
  abbrev pub FindsTooMany : Type 0
  FindsTooMany = AreTooMany query.tolerances (coordinates_of query.plane) query.point query.is_last
      lines

  -- exactly the candidates among the lines of these ranks, each once, in their order
  pub record AreFound (ranks : List ℕ) (candidates : List Candidate) : Type 0 where
    pub only : All (IsOneOf query.tolerances (coordinates_of query.plane) query.point query.is_last
        lines) candidates
    pub each : (rank : ℕ) (candidate : Candidate) → Contains ranks rank → Finds rank candidate
        → Contains candidates candidate
    pub rise : AllPairs IsBefore candidates
    pub among : All (λ (candidate : Candidate). Contains ranks candidate.place.line) candidates

-- the x of the places of a longitude in the plane with this origin, whatever their latitude
abbrev pub x_of : Coordinates → ℤ → ℤ
x_of origin lon = (spot_of origin (record { lon = lon; lat = pos 0 })).x

-- A window holds every place whose x and y in the plane differ from those of the query's point by
-- at most a radius: such a place lies to none of its sides. The radius has metres, and the plane
-- centimetres.
pub record CoversRadius (query : Query) (radius : ℕ) (window : BoundingBox) : Type 0 where
  pub south : (place : Coordinates) → IsInRange place
      → ((spot_of (coordinates_of query.plane) (coordinates_of query.point.at)).y -ℤ pos
      (100 * radius)) ≤ℤ (spot_of (coordinates_of query.plane) place).y → window.south ≤ℤ place.lat
  pub north : (place : Coordinates) → IsInRange place
      → (spot_of (coordinates_of query.plane) place).y
      ≤ℤ ((spot_of (coordinates_of query.plane) (coordinates_of query.point.at)).y +ℤ pos
      (100 * radius)) → place.lat ≤ℤ window.north
  pub west : (place : Coordinates) → IsInRange place
      → ((spot_of (coordinates_of query.plane) (coordinates_of query.point.at)).x -ℤ pos
      (100 * radius)) ≤ℤ (spot_of (coordinates_of query.plane) place).x → window.west ≤ℤ place.lon
  pub east : (place : Coordinates) → IsInRange place
      → (spot_of (coordinates_of query.plane) place).x
      ≤ℤ ((spot_of (coordinates_of query.plane) (coordinates_of query.point.at)).x +ℤ pos
      (100 * radius)) → place.lon ≤ℤ window.east
