-- A line near a point is one such line at most. It fails no condition exactly where it is a
-- candidate.
use Rattle.olr_candidates.proofs.Common.{arith, Coordinates, coordinates_of, Point, points_of, RoadLine, head_of, Line, Candidate, NearLine, Projection, Tolerances, IsCandidateAt, ◌≡◌, ℕ, Bool, true, false, List, length, Option, Some, None, refl, ◌+◌, ◌==◌, MatchBool-at_false, IsCandidate, MeetsConditions, Rates, penalty_of, CandidatesFailNone, IsAsCandidate, NearAreCandidates, AreFailed, Describes, FailsExactly, HasPenalty, IsNearLine, IsNearLineAt, none_failed}
use Rattle.olr_candidates.specs.declared.near.FailedConditions.{FailedConditions}
use Rattle.olr_candidates.proofs.LineCandidates.{OneProjection}

-- ---- by one projection

same_flag : (a b : Bool) (Condition : Type 0) → FailsExactly a Condition → FailsExactly b Condition
    → a ≡ b
same_flag true false Condition one other = absurd (one other)
same_flag false true Condition one other = absurd (other one)
same_flag _ _ Condition one other = refl

holds : {flag : Bool} (Condition : Type 0) → FailsExactly flag Condition → flag ≡ false → Condition
holds Condition exactly is = MatchBool-at_false (Condition → ⊥) Condition is exactly

not_raised : (flag : Bool) (Condition : Type 0) → FailsExactly flag Condition → Condition
    → flag ≡ false
not_raised true Condition exactly is = absurd (exactly is)
not_raised false Condition exactly is = refl

same_conditions : (a b : FailedConditions) → a.radius ≡ b.radius → a.bearing ≡ b.bearing
    → a.class ≡ b.class → a.end ≡ b.end → a ≡ b
same_conditions a b radius bearing class end = grind arith

same_near : (a b : NearLine) → a.line ≡ b.line → a.distance ≡ b.distance → a.at ≡ b.at
    → a.sector ≡ b.sector → a.failed ≡ b.failed → a.penalty ≡ b.penalty → a ≡ b
same_near a b line distance at sector failed penalty = grind arith

module _ (tolerances : Tolerances) (point : Point) (is_last : Bool) (line : Line)
    (projection : Projection) where
  same_failed : (a b : FailedConditions) → AreFailed tolerances point is_last line projection a
      → AreFailed tolerances point is_last line projection b → a ≡ b
  same_failed a b one other = grind (arith, same_conditions, same_flag)

  same_penalty : (a b : Option ℕ) → HasPenalty tolerances point is_last line projection a
      → HasPenalty tolerances point is_last line projection b → a ≡ b
  same_penalty None None one other = refl
  same_penalty None (Some q) one other = absurd (one other.0)
  same_penalty (Some p) None one other = absurd (other one.0)
  same_penalty (Some p) (Some q) one other = cc

  described_once : (rank : ℕ) (a b : NearLine)
      → Describes tolerances point is_last line rank projection a
      → Describes tolerances point is_last line rank projection b → a ≡ b
  described_once rank a b one other = grind (arith, same_near, same_failed, same_penalty)

  -- a line that fails none of the conditions meets them all, and the other way round
  met : (failed : FailedConditions) → AreFailed tolerances point is_last line projection failed
      → failed ≡ none_failed → MeetsConditions tolerances point is_last line projection
  met failed are none = grind (arith, holds)

  fails_none : (failed : FailedConditions)
      → AreFailed tolerances point is_last line projection failed
      → MeetsConditions tolerances point is_last line projection → failed ≡ none_failed
  fails_none failed are meets = grind (arith, same_conditions, not_raised)

  -- then it has the candidate's penalty
  penalty_met : (penalty : Option ℕ) → HasPenalty tolerances point is_last line projection penalty
      → MeetsConditions tolerances point is_last line projection
      → penalty ≡ Some (penalty_of tolerances point line projection)
  penalty_met None has meets = absurd (has meets)
  penalty_met (Some value) has meets = cc

  as_candidate : (rank : ℕ) (near : NearLine) (candidate : Candidate)
      → Describes tolerances point is_last line rank projection near
      → Rates tolerances point is_last line rank projection candidate → IsAsCandidate near candidate
  as_candidate rank near candidate describes rates = grind (arith, penalty_met)

  rates_near : (rank : ℕ) (near : NearLine)
      → Describes tolerances point is_last line rank projection near → near.failed ≡ none_failed
      → (candidate : Candidate) × Rates tolerances point is_last line rank projection candidate
  rates_near rank near describes none = (
    record {
      place = record { line = rank; at = projection.at };
      penalty = penalty_of tolerances point line projection;
    },
    record {
      conditions = met _ describes.failed none;
      line_is = refl;
      at_is = refl;
      penalty_is = refl;
    },
  )

-- ---- on a map

module _ (one : OneProjection) (tolerances : Tolerances) (origin : Coordinates) (point : Point)
    (is_last : Bool) (lines : List RoadLine) (rank : ℕ) where
  -- two lines near a point, of one rank: by the same projection
  other_described : (a b : NearLine)
      (is : IsNearLineAt tolerances origin point is_last lines rank a)
      → IsNearLineAt tolerances origin point is_last lines rank b
      → Describes tolerances point is_last (head_of is.0) rank is.2.projection b
  other_described a b is other =
      let line : other.0 ≡ is.0 = cc in
      let also : IsNearLine tolerances origin point is_last is.0 rank b = rw (← line) other.2 in
      let same : also.projection ≡ is.2.projection =
      one _ _ _ _ _ _ also.is_projection is.2.is_projection in
      rw (← same) also.describes

  pub one_near : (a b : NearLine) → IsNearLineAt tolerances origin point is_last lines rank a
      → IsNearLineAt tolerances origin point is_last lines rank b → a ≡ b
  one_near a b is other = described_once _ _ _ (head_of is.0) is.2.projection rank a b
      is.2.describes (other_described a b is other)

  -- a candidate and a line near a point, of one rank: by the same projection
  candidate_rated : (near : NearLine) (candidate : Candidate)
      (is : IsNearLineAt tolerances origin point is_last lines rank near)
      → IsCandidateAt tolerances origin point is_last lines rank candidate
      → Rates tolerances point is_last (head_of is.0) rank is.2.projection candidate
  candidate_rated near candidate is other =
      let line : other.0 ≡ is.0 = cc in
      let also : IsCandidate tolerances origin point is_last is.0 rank candidate =
      rw (← line) other.2 in
      let same : also.projection ≡ is.2.projection =
      one _ _ _ _ _ _ also.is_projection is.2.is_projection in
      rw (← same) also.rates

  pub candidate_fails_none : (near : NearLine) (candidate : Candidate)
      → IsNearLineAt tolerances origin point is_last lines rank near
      → IsCandidateAt tolerances origin point is_last lines rank candidate
      → (near.failed ≡ none_failed) × IsAsCandidate near candidate
  candidate_fails_none near candidate is other =
      let rates = candidate_rated _ _ is other in (
        fails_none _ point is_last (head_of is.0) is.2.projection near.failed is.2.describes.failed
            rates.conditions,
        as_candidate _ _ _ (head_of is.0) is.2.projection rank near candidate is.2.describes rates,
      )

pub near_candidate : {tolerances : Tolerances} {origin : Coordinates} {point : Point}
    (is_last : Bool) (lines : List RoadLine) (rank : ℕ) (near : NearLine)
    → IsNearLineAt tolerances origin point is_last lines rank near → near.failed ≡ none_failed
    → (candidate : Candidate) × IsCandidateAt tolerances origin point is_last lines rank candidate
    × IsAsCandidate near candidate
near_candidate is_last lines rank near is none =
    let rated = rates_near _ _ is_last (head_of is.0) is.2.projection rank near is.2.describes
    none in (
      rated.0,
      (
        is.0,
        is.1,
        record {
          projection = is.2.projection;
          is_projection = is.2.is_projection;
          rates = rated.1;
        },
      ),
      as_candidate _ _ _ (head_of is.0) is.2.projection rank near rated.0 is.2.describes rated.1,
    )

-- ---- of a reference

pub near_are_candidates : NearAreCandidates
near_are_candidates tolerances reference lines index rank near is none =
    let found = near_candidate _ _ _ _ is.just none in (
      found.0,
      record {
        first = is.first;
        point = is.point;
        first_is = is.first_is;
        point_is = is.point_is;
        just = found.1;
      },
      found.2,
    )

pub candidates_fail_none : OneProjection → CandidatesFailNone
candidates_fail_none one tolerances reference lines index rank near candidate is other =
    let first : other.first ≡ is.first = cc in
    let point : other.point ≡ is.point = cc in
    candidate_fails_none one _ (coordinates_of is.first.at) is.point
    (index + 1 == length (points_of reference)) lines rank near candidate
    is.just (rw (← first, ← point) other.just)
