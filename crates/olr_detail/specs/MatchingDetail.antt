-- What speaks for a matching: for each of its candidates, for each of its legs, and as a whole.
use Rattle.std.specs.Prelude.{◌≡◌, ℕ, ◌+◌, List, length, map, Some, slice_get, All}
use Rattle.olr_binary.specs.declared.reference.Reference.{Reference}
use Rattle.olr_keys.specs.Key.{KeyValue}
use Rattle.olr_road.specs.RoadMap.{RoadLine, RoadMap}
use Rattle.olr_route.specs.declared.piece.Piece.{Piece}
use Rattle.olr_candidates.specs.Points.{IsCandidateOf}
use Rattle.olr_candidates.specs.declared.candidate.Candidate.{Candidate}
use Rattle.olr_candidates.specs.declared.tolerances.Tolerances.{Tolerances}
use Rattle.olr_matching.specs.Layers.{AreLayersOn, LayersValue, LeadsOn}
use Rattle.olr_matching.specs.Matched.{IsMatchedBy}
use Rattle.olr_matching.specs.declared.matched.Leg.{Leg}
use Rattle.olr_matching.specs.declared.matched.Matched.{Matched}
use Rattle.olr_binary.specs.declared.point.Next.{Next}
use Rattle.olr_report.specs.Entries.{Entry}
use Rattle.olr_detail.specs.CandidateDetail.{IsDetailOf}
use Rattle.olr_detail.specs.Cost.{IsLikelyCost}
use Rattle.olr_detail.specs.LegDetail.{leg_detail_of}
use Rattle.olr_detail.specs.declared.candidate_detail.CandidateDetail.{CandidateDetail}
use Rattle.olr_detail.specs.declared.leg_detail.LegDetail.{LegDetail}
use Rattle.olr_detail.specs.declared.matching_detail.MatchingDetail.{MatchingDetail}

-- each leg leads on from its point to the next one
abbrev pub LeadOn : Reference → List Leg → Type 0
LeadOn reference legs = (index : ℕ) (leg : Leg) → slice_get legs index ≡ Some leg
    → (next : Next) × LeadsOn reference index next

module _ (tolerances : Tolerances) (reference : Reference) where
  -- what speaks for each candidate of a list of candidates of the first points
  pub record AreDetailsOf (lines : List RoadLine) (candidates : List Candidate)
      (details : List CandidateDetail) : Type 0 where
    pub count : length details ≡ length candidates
    pub each : (index : ℕ) (candidate : Candidate) (detail : CandidateDetail)
        → slice_get candidates index ≡ Some candidate → slice_get details index ≡ Some detail
        → IsDetailOf tolerances reference lines index candidate detail

  -- what speaks for the leg from the point of this index to the next one
  pub record IsLegDetailAt (index : ℕ) (leg : Leg) (detail : LegDetail) : Type 0 where
    pub next : Next
    pub leads_on : LeadsOn reference index next
    pub detail_is : detail ≡ leg_detail_of tolerances next leg

  -- what speaks for each leg
  pub record AreLegDetailsOf (legs : List Leg) (details : List LegDetail) : Type 0 where
    pub count : length details ≡ length legs
    pub each : (index : ℕ) (leg : Leg) (detail : LegDetail)
        → slice_get legs index ≡ Some leg → slice_get details index ≡ Some detail
        → IsLegDetailAt index leg detail

  -- what speaks for a matching with this route
  pub record IsMatchingDetail (road : RoadMap) (matched : Matched) (route : List Piece)
      (detail : MatchingDetail) : Type 0 where
    pub points : AreDetailsOf road.lines matched.candidates detail.points
    pub legs : AreLegDetailsOf matched.legs detail.legs
    pub likely : IsLikelyCost road matched route detail.likely

  -- each is a candidate of its point
  abbrev pub AreOfPoints : List RoadLine → List Candidate → Type 0
  AreOfPoints lines candidates = (index : ℕ) (candidate : Candidate)
      → slice_get candidates index ≡ Some candidate
      → IsCandidateOf tolerances reference lines index candidate.place.line candidate

  -- What the calls need of the parts of a matching: there is one leg fewer than candidates, each
  -- candidate is one of its point, and each leg leads on from its point.
  pub record CanBeDetailed (road : RoadMap) (matched : Matched) : Type 0 where
    pub count : length matched.legs + 1 ≡ length matched.candidates
    pub candidates : AreOfPoints road.lines matched.candidates
    pub legs : LeadOn reference matched.legs

-- ---- entries

-- a matching, and what speaks for it
pub record Detailed : Type 0 where
  pub entry : Entry
  pub detail : MatchingDetail

-- their matchings
abbrev pub entries_of : List Detailed → List Entry
entries_of all = map (λ (one : Detailed). one.entry) all

-- this speaks for the matching
abbrev pub IsDetailed : Tolerances → Reference → RoadMap → Detailed → Type 0
IsDetailed tolerances reference road one =
    IsMatchingDetail tolerances reference road one.entry.matched one.entry.route one.detail

-- these are the matchings, with what speaks for each of them
pub record AreInDetail (tolerances : Tolerances) (reference : Reference) (road : RoadMap)
    (entries : List Entry) (all : List Detailed) : Type 0 where
  pub entries_are : entries_of all ≡ entries
  pub each : All (IsDetailed tolerances reference road) all

-- ---- what the calls need

-- so it is for the parts of every matching of the layers of a reference on a map
abbrev pub MatchingsCanBeDetailed : Type 0
MatchingsCanBeDetailed = (road : RoadMap) (layers : LayersValue) (key : KeyValue)
    (matched : Matched) → AreLayersOn road layers → IsMatchedBy road layers key matched
    → CanBeDetailed layers.tolerances layers.reference road matched
