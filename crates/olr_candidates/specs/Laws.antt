-- Laws on the candidates of a point and of all points of a reference. Each is the contract of a
-- public function that does nothing at run time; its body only names the laws on which it rests.
use Rattle.std.specs.Prelude.{◌≡◌, ℕ, ◌+◌, ◌<◌, ◌≤◌, ◌⊎◌, Bool, List, Some, length, slice_get, filter, All, AllPairs, Decides}
use Rattle.olr_candidates.specs.Common.{Coordinates, Point, Reference, points_of, RoadLine}
use Rattle.olr_road.specs.Place.{IsPlace, IsDeparture}
use Rattle.olr_road.specs.RoadMap.{RoadMap, IsSoundMap}
use Rattle.olr_candidates.specs.declared.candidate.Candidate.{Candidate}
use Rattle.olr_candidates.specs.declared.near.NearLine.{NearLine}
use Rattle.olr_candidates.specs.declared.rejection.Rejection.{Rejection}
use Rattle.olr_candidates.specs.declared.tolerances.Tolerances.{Tolerances}
use Rattle.olr_candidates.specs.Candidate.{IsOnLine}
use Rattle.olr_candidates.specs.Candidates.{AreCandidates, AreTooMany, IsBefore, IsCandidateAt, is_before}
use Rattle.olr_candidates.specs.Near.{AreNearestOf, IsNearLineOf, none_failed}
use Rattle.olr_candidates.specs.Points.{AreCandidatesOf, AreLists, HasTooMany, IsCandidateOf, IsListOf, IsFirstTooMany, IsRejectionOf}

-- ---- a point

-- a point has one list of candidates at most
abbrev pub OneList : Type 0
OneList = (tolerances : Tolerances) (origin : Coordinates) (point : Point) (is_last : Bool)
    (lines : List RoadLine) (a b : List Candidate)
    → AreCandidates tolerances origin point is_last lines a
    → AreCandidates tolerances origin point is_last lines b → a ≡ b

-- a point whose list has at most 64 candidates hasn't too many
abbrev pub NoListAndTooMany : Type 0
NoListAndTooMany = (tolerances : Tolerances) (origin : Coordinates) (point : Point) (is_last : Bool)
    (lines : List RoadLine) (candidates : List Candidate)
    → AreCandidates tolerances origin point is_last lines candidates → length candidates ≤ 64
    → AreTooMany tolerances origin point is_last lines → ⊥

-- the test of the order holds exactly where the order does
abbrev pub TestsOrder : Type 0
TestsOrder = (a b : Candidate) → Decides (is_before a b) (IsBefore a b)

-- a candidate's index in the list, from 0, is the number of the point's candidates with a lesser
-- penalty, or with the same penalty and a line of lesser rank
abbrev pub RanksCount : Type 0
RanksCount = (tolerances : Tolerances) (origin : Coordinates) (point : Point) (is_last : Bool)
    (lines : List RoadLine) (candidates : List Candidate)
    (index : ℕ) (candidate : Candidate)
    → AreCandidates tolerances origin point is_last lines candidates
    → slice_get candidates index ≡ Some candidate
    → length (filter (λ other. is_before other candidate) candidates) ≡ index

-- a line is one candidate of a point at most
abbrev pub OneCandidateALine : Type 0
OneCandidateALine = (tolerances : Tolerances) (origin : Coordinates) (point : Point)
    (is_last : Bool) (lines : List RoadLine) (rank : ℕ) (a b : Candidate)
    → IsCandidateAt tolerances origin point is_last lines rank a
    → IsCandidateAt tolerances origin point is_last lines rank b → a ≡ b

-- this holds of each candidate of a point
abbrev pub HoldsOfEach : (List RoadLine → Bool → Candidate → Type 0) → Type 0
HoldsOfEach P = (tolerances : Tolerances) (origin : Coordinates) (point : Point) (is_last : Bool)
    (lines : List RoadLine) (candidates : List Candidate)
    → AreCandidates tolerances origin point is_last lines candidates
    → All (P lines is_last) candidates

-- the candidate's line is one of the lines
abbrev pub IsOfLines : List RoadLine → Bool → Candidate → Type 0
IsOfLines lines is_last candidate = candidate.place.line < length lines

-- a route can leave from it along its line: it lies before the end; at the last point a route can
-- arrive there along the line: it lies after the start
abbrev pub LiesOnLine : List RoadLine → Bool → Candidate → Type 0
LiesOnLine lines is_last candidate = (line : RoadLine)
    → slice_get lines candidate.place.line ≡ Some line
    → IsOnLine is_last line.length candidate.place.at

-- it lies no further than the end of its line
abbrev pub LiesUpToEnd : List RoadLine → Bool → Candidate → Type 0
LiesUpToEnd lines is_last candidate = (line : RoadLine)
    → slice_get lines candidate.place.line ≡ Some line → candidate.place.at ≤ line.length

-- on a map its penalty is at most 360
abbrev pub PenaltyAtMost : Type 0
PenaltyAtMost = (tolerances : Tolerances) (origin : Coordinates) (point : Point) (is_last : Bool)
    (road : RoadMap) (candidates : List Candidate) → IsSoundMap road
    → AreCandidates tolerances origin point is_last road.lines candidates
    → All (λ (candidate : Candidate). candidate.penalty ≤ 360) candidates

-- ---- the points of a reference

-- a point of a reference, counted from 0, has one list of candidates at most
abbrev pub OneListOfPoint : Type 0
OneListOfPoint = (tolerances : Tolerances) (reference : Reference) (lines : List RoadLine)
    (index : ℕ) (a b : List Candidate)
    → AreCandidatesOf tolerances reference lines index a
    → AreCandidatesOf tolerances reference lines index b → a ≡ b

-- a point whose list has at most 64 candidates hasn't too many
abbrev pub NoListOfPointAndTooMany : Type 0
NoListOfPointAndTooMany = (tolerances : Tolerances) (reference : Reference) (lines : List RoadLine)
    (index : ℕ) (candidates : List Candidate)
    → IsListOf tolerances reference lines index candidates
    → HasTooMany tolerances reference lines index → ⊥

-- all points have one list of lists at most
abbrev pub OneLists : Type 0
OneLists = (tolerances : Tolerances) (reference : Reference) (lines : List RoadLine)
    (a b : List (List Candidate))
    → AreLists tolerances reference lines a → AreLists tolerances reference lines b → a ≡ b

-- where all points have their lists, none has too many
abbrev pub NoListsAndTooMany : Type 0
NoListsAndTooMany = (tolerances : Tolerances) (reference : Reference) (lines : List RoadLine)
    (lists : List (List Candidate)) (index : ℕ)
    → AreLists tolerances reference lines lists → HasTooMany tolerances reference lines index → ⊥

-- there is one first point with too many at most
abbrev pub OneFirstTooMany : Type 0
OneFirstTooMany = (tolerances : Tolerances) (reference : Reference) (lines : List RoadLine)
    (a b : ℕ)
    → IsFirstTooMany tolerances reference lines a → IsFirstTooMany tolerances reference lines b
    → a ≡ b

-- a line that fails a condition is not a candidate of the point
abbrev pub RejectedAreNone : Type 0
RejectedAreNone = (tolerances : Tolerances) (reference : Reference) (lines : List RoadLine)
    (index rank : ℕ) (rejection : Rejection) (candidate : Candidate)
    → IsRejectionOf tolerances reference lines index rank rejection
    → IsCandidateOf tolerances reference lines index rank candidate → ⊥

-- each candidate of a point is a place on the map
abbrev pub ArePlaces : Type 0
ArePlaces = (tolerances : Tolerances) (reference : Reference) (road : RoadMap) (index : ℕ)
    (candidates : List Candidate)
    → AreCandidatesOf tolerances reference road.lines index candidates
    → All (λ (candidate : Candidate). IsPlace road candidate.place) candidates

-- and a departure, where the point isn't the last
abbrev pub AreDepartures : Type 0
AreDepartures = (tolerances : Tolerances) (reference : Reference) (road : RoadMap) (index : ℕ)
    (candidates : List Candidate) → index + 1 < length (points_of reference)
    → AreCandidatesOf tolerances reference road.lines index candidates
    → All (λ (candidate : Candidate). IsDeparture road candidate.place) candidates

-- the order of candidates in the field's terms: by penalty and then by the id of the line
abbrev pub IsBeforeById : List RoadLine → Candidate → Candidate → Type 0
IsBeforeById lines a b = (first second : RoadLine) → slice_get lines a.place.line ≡ Some first
    → slice_get lines b.place.line ≡ Some second
    → (a.penalty < b.penalty) ⊎ ((a.penalty ≡ b.penalty) × (first.id < second.id))

-- on a map the candidates of a point are in that order
abbrev pub AreInOrderOfIds : Type 0
AreInOrderOfIds = (tolerances : Tolerances) (reference : Reference) (road : RoadMap) (index : ℕ)
    (candidates : List Candidate) → IsSoundMap road
    → AreCandidatesOf tolerances reference road.lines index candidates
    → AllPairs (IsBeforeById road.lines) candidates

-- ---- the lines near a point of a reference

-- a line near a point has the place and the penalty of a candidate
pub record IsAsCandidate (near : NearLine) (candidate : Candidate) : Type 0 where
  pub line_is : near.line ≡ candidate.place.line
  pub at_is : near.at ≡ candidate.place.at
  pub penalty_is : near.penalty ≡ Some candidate.penalty

-- a line that fails no condition is a candidate of the point, with this place and this penalty
abbrev pub NearAreCandidates : Type 0
NearAreCandidates = (tolerances : Tolerances) (reference : Reference) (lines : List RoadLine)
    (index rank : ℕ) (near : NearLine)
    → IsNearLineOf tolerances reference lines index rank near → near.failed ≡ none_failed
    → (candidate : Candidate) × IsCandidateOf tolerances reference lines index rank candidate
    × IsAsCandidate near candidate

-- and where a line is a candidate of the point, it fails no condition, and has this place and this
-- penalty
abbrev pub CandidatesFailNone : Type 0
CandidatesFailNone = (tolerances : Tolerances) (reference : Reference) (lines : List RoadLine)
    (index rank : ℕ) (near : NearLine) (candidate : Candidate)
    → IsNearLineOf tolerances reference lines index rank near
    → IsCandidateOf tolerances reference lines index rank candidate
    → (near.failed ≡ none_failed) × IsAsCandidate near candidate

-- a point has one list of nearest lines at most, of each count
abbrev pub OneListOfNearest : Type 0
OneListOfNearest = (tolerances : Tolerances) (reference : Reference) (lines : List RoadLine)
    (index count : ℕ) (a b : List NearLine)
    → AreNearestOf tolerances reference lines index count a
    → AreNearestOf tolerances reference lines index count b → a ≡ b

-- each of the nearest lines is a line near the point
abbrev pub NearestAreNear : Type 0
NearestAreNear = (tolerances : Tolerances) (reference : Reference) (lines : List RoadLine)
    (index count : ℕ) (nearest : List NearLine)
    → AreNearestOf tolerances reference lines index count nearest
    → All (λ (near : NearLine). IsNearLineOf tolerances reference lines index near.line near)
    nearest

-- a line near a point is the line of its rank
abbrev pub NearIsOfLines : Type 0
NearIsOfLines = (tolerances : Tolerances) (reference : Reference) (lines : List RoadLine)
    (index rank : ℕ) (near : NearLine)
    → IsNearLineOf tolerances reference lines index rank near → (near.line ≡ rank)
    × (rank < length lines)

-- the order of the nearest lines in the field's terms: by distance and then by the id of the line
abbrev pub IsNearerById : List RoadLine → NearLine → NearLine → Type 0
IsNearerById lines a b = (first second : RoadLine) → slice_get lines a.line ≡ Some first
    → slice_get lines b.line ≡ Some second
    → (a.distance < b.distance) ⊎ ((a.distance ≡ b.distance) × (first.id < second.id))

-- on a map the nearest lines of a point are in that order
abbrev pub NearestAreInOrderOfIds : Type 0
NearestAreInOrderOfIds = (tolerances : Tolerances) (reference : Reference) (road : RoadMap)
    (index count : ℕ) (nearest : List NearLine) → IsSoundMap road
    → AreNearestOf tolerances reference road.lines index count nearest
    → AllPairs (IsNearerById road.lines) nearest
