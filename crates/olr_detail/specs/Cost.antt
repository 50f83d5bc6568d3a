-- The likely cost of a matching, in thirtieths of a penalty point: how unlikely it is that it is
-- the right one. (The weights are this project's choice, by trials: docs/CONFIDENCE.md.)
use Rattle.std.specs.Prelude.{◌≡◌, ℕ, ◌+◌, ◌*◌, Bool, true, false, if◌then◌else◌, min, List, [], ◌∷◌, sum_by, Decides}
use Rattle.olr_road.specs.RoadMap.{RoadMap}
use Rattle.olr_route.specs.Walk.{length_at}
use Rattle.olr_route.specs.declared.piece.Piece.{Piece}
use Rattle.olr_candidates.specs.declared.candidate.Candidate.{Candidate}
use Rattle.olr_matching.specs.declared.matched.Leg.{Leg}
use Rattle.olr_matching.specs.declared.matched.Matched.{Matched}
use Rattle.olr_detail.specs.CandidateDetail.{end_of}
use Rattle.olr_detail.specs.Turning.{TurnsBack}
use Rattle.olr_detail.specs.declared.cost.LikelyCost.{LikelyCost}

-- how far each of the candidates of a reference's points, in order, lies from the proper end of its
-- line, in decimetres
abbrev pub ends_of : RoadMap → List Candidate → List ℕ
ends_of road [] = []
ends_of road (candidate ∷ []) =
    end_of true (length_at road candidate.place.line) candidate.place.at ∷ []
ends_of road (candidate ∷ next ∷ rest) =
    end_of false (length_at road candidate.place.line) candidate.place.at
    ∷ ends_of road (next ∷ rest)

-- what these distances add: each counts up to 50 metres
abbrev pub cost_of_ends : List ℕ → ℕ
cost_of_ends ends = sum_by (min 500) ends

-- what turning back adds
abbrev pub cost_of_turning : Bool → ℕ
cost_of_turning turns_back = if turns_back then 3600 else 0

-- The cost: 30 for each penalty point of a candidate, 6 for each of a leg, what the distances from
-- the proper ends of the lines add, and what turning back adds.
abbrev pub cost_of : RoadMap → Matched → Bool → ℕ
cost_of road matched turns_back =
    30 * sum_by (λ (candidate : Candidate). candidate.penalty) matched.candidates
    + 6 * sum_by (λ (leg : Leg). leg.penalty) matched.legs
    + cost_of_ends (ends_of road matched.candidates)
    + cost_of_turning turns_back

-- the cost of a matching with this route, and whether it turns back
pub record IsLikelyCost (road : RoadMap) (matched : Matched) (route : List Piece)
    (likely : LikelyCost) : Type 0 where
  pub turns : Decides likely.turns_back (TurnsBack road.lines route)
  pub cost_is : likely.cost ≡ cost_of road matched likely.turns_back
