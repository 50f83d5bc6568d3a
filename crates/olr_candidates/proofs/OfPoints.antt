-- What a query for a point of a reference finds.
use Rattle.std.specs.Option.{ok_or}
use Rattle.olr_candidates.proofs.Common.{ArrayVec, Coordinates, coordinates_of, Point, Reference, RoadLine, Candidate, Query, Rejection, Tolerances, Answers, Finds, FindsTooMany, Rejects, ◌≡◌, ℕ, ◌+◌, Bool, List, Option, Some, None, Result, Ok, Err, MatchOption, MatchResult, HoldsAt, AreCandidates, AreTooMany, IsCandidateAt, IsRejectionAt, AreCandidatesOf, HasTooMany, IsCandidateOf, IsRejectionOf, IsQueryOf}
use Rattle.olr_candidates.specs.declared.point.TooManyCandidates.{TooManyCandidates}

module _ (tolerances : Tolerances) (reference : Reference) (index : ℕ) (query : Query)
    (is : IsQueryOf tolerances reference index query) where
  -- what holds by the query holds of the point
  pub of_point : (Holds : Tolerances → Coordinates → Point → Bool → Type 0)
      → Holds query.tolerances (coordinates_of query.plane) query.point query.is_last
      → HoldsAt reference index (Holds tolerances)
  of_point Holds just = record {
    first = is.first;
    point = query.point;
    first_is = is.first_is;
    point_is = is.point_is;
    just = rw (← is.plane_is, ← is.last_is, ← is.tolerances_is) just;
  }

  pub listed : (lines : List RoadLine) (list : List Candidate) → Answers query lines list
      → AreCandidatesOf tolerances reference lines index list
  listed lines list just = of_point (λ t o p l. AreCandidates t o p l lines list) just

  pub answered : (lines : List RoadLine) (refusal : TooManyCandidates)
      (found : Option (ArrayVec Candidate)) → refusal.0 ≡ index + 1
      → MatchOption found (FindsTooMany query lines) (λ list. Answers query lines list.items)
      → MatchResult (ok_or found refusal)
      (λ list. AreCandidatesOf tolerances reference lines index list.items)
      (λ refused. (refused.0 ≡ index + 1) × HasTooMany tolerances reference lines index)
  answered lines refusal None number many =
      (number, of_point (λ t o p l. AreTooMany t o p l lines) many)
  answered lines refusal (Some list) number just =
      listed lines list.items just

  -- the same of one line
  pub rated : (lines : List RoadLine) (rank : ℕ) (result : Result Candidate Rejection)
      → MatchResult result (Finds query lines rank) (Rejects query lines rank)
      → MatchResult result (IsCandidateOf tolerances reference lines index rank)
      (IsRejectionOf tolerances reference lines index rank)
  rated lines rank (Ok candidate) at = of_point
      (λ t o p l. IsCandidateAt t o p l lines rank candidate) at
  rated lines rank (Err rejection) at = of_point
      (λ t o p l. IsRejectionAt t o p l lines rank rejection) at
