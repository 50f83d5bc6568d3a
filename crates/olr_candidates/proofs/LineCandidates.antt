-- What is found for a line of the map.
use Rattle.olr_candidates.proofs.Common.{Spot, Coordinates, coordinates_of, spot_of, Point, RoadLine, head_of, IsSoundLine, Line, Candidate, Projection, Rejection, Tolerances, IsCandidateAt, Query, Finds, Rejects, polyline_of, IsProjection, ◌≡◌, ℕ, zero, suc, ◌<◌, Bool, List, [], ◌∷◌, length, All, Some, Result, Ok, Err, subst, sym, refl, arith, MatchResult, slice_get, option_map, get_or_from_slice_get, slice_get_within, MeetsConditions, IsCandidate, Rates, IsRejectionAt}
use Rattle.olr_candidates.specs.declared.rejection.Rejection.TheVariants.{Radius, Bearing, Class, Position}
use Rattle.olr_candidates.specs.Rejection.{IsFirstFailed}

abbrev pub OneProjection : Type 0
OneProjection = (polyline : List Spot) (length : ℕ) (is_last : Bool) (p : Spot) (a b : Projection)
    → IsProjection polyline length is_last p a → IsProjection polyline length is_last p b → a ≡ b

-- the line of a rank, rated by its projection
pub rated : (query : Query) (lines : List RoadLine) (rank : ℕ) (line : RoadLine)
    (projection : Projection) (result : Result Candidate Rejection)
    → slice_get lines rank ≡ Some line
    → IsProjection (polyline_of (coordinates_of query.plane) line) line.length query.is_last
    (spot_of (coordinates_of query.plane) (coordinates_of query.point.at)) projection
    → MatchResult result (Rates query.tolerances query.point query.is_last (head_of line) rank
    projection) (IsFirstFailed query.tolerances query.point query.is_last (head_of line) projection)
    → MatchResult result (Finds query lines rank) (Rejects query lines rank)
rated query lines rank line projection (Ok candidate) at is rates = grind arith
rated query lines rank line projection (Err rejection) at is failed = grind arith

-- a line that fails a condition doesn't meet all of them
pub not_met : {tolerances : Tolerances} {point : Point} {is_last : Bool} {line : Line}
    {projection : Projection} (rejection : Rejection)
    → IsFirstFailed tolerances point is_last line projection rejection
    → MeetsConditions tolerances point is_last line projection → ⊥
not_met (Radius distance) failed meets = omega arith
not_met (Bearing sectors) failed meets = omega arith
not_met (Class classes) failed meets = omega arith
not_met {is_last = is_last} {line = line} (Position at) failed meets = grind arith

-- ---- the line of a rank

-- there is one
pub line_at : {X : Type 0} (lines : List X) (rank : ℕ) → rank < length lines
    → (line : X) × (slice_get lines rank ≡ Some line)
line_at [] rank within = absurd (omega arith)
line_at (line ∷ rest) zero within = (line, refl)
line_at (line ∷ rest) (suc rank) within = line_at rest rank (omega arith)

pub sound_at : {nodes : ℕ} (lines : List RoadLine) (rank : ℕ) {line : RoadLine}
    → All (IsSoundLine nodes) lines → slice_get lines rank ≡ Some line → IsSoundLine nodes line
sound_at lines rank {line = line} all at = rw (← (get_or_from_slice_get lines rank _ line at))
    (all rank line (slice_get_within lines rank line at))

pub head_at : (lines : List RoadLine) (rank : ℕ) (line : RoadLine) (head : Line)
    → slice_get lines rank ≡ Some line → option_map head_of (slice_get lines rank) ≡ Some head
    → head ≡ head_of line
head_at lines rank line head at is = sym (cc)

pub points_at : (lines : List RoadLine) (rank : ℕ) (line : RoadLine) {points : List Coordinates}
    → slice_get lines rank ≡ Some line
    → option_map (λ l. l.points) (slice_get lines rank) ≡ Some points → points ≡ line.points
points_at lines rank line at is = sym (cc)

-- ---- one line is one candidate at most

same_candidate : (a b : Candidate) → a.place.line ≡ b.place.line → a.place.at ≡ b.place.at
    → a.penalty ≡ b.penalty → a ≡ b
same_candidate a b line at penalty = grind arith

pub one_candidate : OneProjection
    → (tolerances : Tolerances) (origin : Coordinates) (point : Point) (is_last : Bool)
    (lines : List RoadLine) (rank : ℕ) (a b : Candidate)
    → IsCandidateAt tolerances origin point is_last lines rank a
    → IsCandidateAt tolerances origin point is_last lines rank b → a ≡ b
one_candidate one tolerances origin point is_last lines rank a b is other =
    let line : other.0 ≡ is.0 = cc in
    let also : IsCandidate tolerances origin point is_last is.0 rank b = rw (← line) other.2 in
    let projection : also.projection ≡ is.2.projection =
    one _ _ _ _ _ _ also.is_projection is.2.is_projection in
    same_candidate a b (cc) (cc) (cc)

-- a line that fails a condition is no candidate
pub rejected : OneProjection → (tolerances : Tolerances) (origin : Coordinates) (point : Point)
    (is_last : Bool) (lines : List RoadLine) (rank : ℕ) (rejection : Rejection)
    → IsRejectionAt tolerances origin point is_last lines rank rejection → (candidate : Candidate)
    → IsCandidateAt tolerances origin point is_last lines rank candidate → ⊥
rejected one tolerances origin point is_last lines rank rejection fails candidate is =
    let line : is.0 ≡ fails.0 = cc in
    let also : IsCandidate tolerances origin point is_last fails.0 rank candidate =
    rw (← line) is.2 in
    let same : also.projection ≡ fails.2.projection =
    one _ _ _ _ _ _ also.is_projection fails.2.is_projection in
    not_met _ fails.2.failed
    (subst (λ (p : Projection). MeetsConditions tolerances point is_last (head_of fails.0) p) same
    also.rates.conditions)
