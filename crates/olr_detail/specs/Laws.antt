-- What speaks for a candidate, for the candidates of all points, and for a matching is one thing each.
-- The laws are the contract of a public function that does nothing at run time.
use Rattle.std.specs.Prelude.{◌≡◌, ℕ, List}
use Rattle.olr_binary.specs.declared.reference.Reference.{Reference}
use Rattle.olr_metric.specs.Polyline.{IsAlong, IsNearest}
use Rattle.olr_metric.specs.Sector.{Direction, IsSector, zero_direction}
use Rattle.olr_metric.specs.declared.polyline.Near.{Near}
use Rattle.olr_metric.specs.declared.spot.Spot.{Spot}
use Rattle.olr_road.specs.RoadMap.{RoadLine, RoadMap}
use Rattle.olr_route.specs.declared.piece.Piece.{Piece}
use Rattle.olr_candidates.specs.declared.candidate.Candidate.{Candidate}
use Rattle.olr_candidates.specs.declared.tolerances.Tolerances.{Tolerances}
use Rattle.olr_matching.specs.declared.matched.Matched.{Matched}
use Rattle.olr_detail.specs.CandidateDetail.{IsDetailOf}
use Rattle.olr_detail.specs.Listing.{AreListsInDetail}
use Rattle.olr_detail.specs.MatchingDetail.{IsMatchingDetail}
use Rattle.olr_detail.specs.declared.candidate_detail.CandidateDetail.{CandidateDetail}
use Rattle.olr_detail.specs.declared.matching_detail.MatchingDetail.{MatchingDetail}

-- of a candidate of a point
abbrev pub OneDetail : Type 0
OneDetail = (tolerances : Tolerances) (reference : Reference) (lines : List RoadLine) (index : ℕ)
    (candidate : Candidate) (one other : CandidateDetail)
    → IsDetailOf tolerances reference lines index candidate one
    → IsDetailOf tolerances reference lines index candidate other → one ≡ other

-- of the candidates of each point
abbrev pub OneListing : Type 0
OneListing = (tolerances : Tolerances) (reference : Reference) (lines : List RoadLine)
    (lists : List (List Candidate)) (one other : List (List CandidateDetail))
    → AreListsInDetail tolerances reference lines lists one
    → AreListsInDetail tolerances reference lines lists other → one ≡ other

-- of a matching with a route
abbrev pub OneMatchingDetail : Type 0
OneMatchingDetail = (tolerances : Tolerances) (reference : Reference) (road : RoadMap)
    (matched : Matched) (route : List Piece) (one other : MatchingDetail)
    → IsMatchingDetail tolerances reference road matched route one
    → IsMatchingDetail tolerances reference road matched route other → one ≡ other

-- ---- what these rest on

-- A polyline has one nearest spot to another and one spot at an arc, and a direction lies in one
-- sector, but for the zero direction, which lies in none.
pub record PlaneLaws : Type 0 where
  pub nearest : (spots : List Spot) (p : Spot) (a b : Near) → IsNearest spots p a
      → IsNearest spots p b → a ≡ b
  pub along : (spots : List Spot) (s : ℕ) (a b : Spot) → IsAlong spots s a → IsAlong spots s b
      → a ≡ b
  pub sector : (d : Direction) (s t : ℕ) → IsSector d s → IsSector d t → s ≡ t
  pub none : (s : ℕ) → IsSector zero_direction s → ⊥
