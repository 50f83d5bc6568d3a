-- What speaks for candidates and matchings is one thing.
use Rattle.std.proofs.Common.{◌≡◌, ◌∙◌, ap, refl, sym, ℕ, Bool, true, false, List, [], ◌∷◌, ◌<◌, Option, Some, length, slice_get, get_or, arith}
use Rattle.std.proofs.lemmas.Option.{slice_get-get_or, slice_get_within}
use Rattle.std.specs.Prelude.{Decides}
use Rattle.olr_base.specs.Coordinates.{Coordinates, coordinates_of}
use Rattle.olr_binary.specs.declared.point.Next.{Next}
use Rattle.olr_binary.specs.declared.point.Point.{Point}
use Rattle.olr_binary.specs.declared.reference.Reference.{Reference}
use Rattle.olr_road.specs.RoadMap.{RoadLine, RoadMap, head_of}
use Rattle.olr_route.specs.declared.piece.Piece.{Piece}
use Rattle.olr_candidates.specs.declared.candidate.Candidate.{Candidate}
use Rattle.olr_candidates.specs.declared.near.NearLine.{NearLine}
use Rattle.olr_candidates.specs.declared.tolerances.Tolerances.{Tolerances}
use Rattle.olr_matching.proofs.Lists.{by_index}
use Rattle.olr_matching.specs.Layers.{LeadsOn}
use Rattle.olr_matching.specs.declared.matched.Leg.{Leg}
use Rattle.olr_matching.specs.declared.matched.Matched.{Matched}
use Rattle.olr_detail.specs.CandidateDetail.{IsDetailAt, detail_by}
use Rattle.olr_detail.specs.Cost.{IsLikelyCost, cost_of}
use Rattle.olr_detail.specs.LegDetail.{leg_detail_of}
use Rattle.olr_detail.specs.Laws.{OneDetail, OneListing, OneMatchingDetail, PlaneLaws}
use Rattle.olr_detail.specs.Listing.{AreDetailsAt}
use Rattle.olr_detail.specs.MatchingDetail.{AreDetailsOf, AreLegDetailsOf, IsLegDetailAt}
use Rattle.olr_detail.specs.declared.candidate_detail.CandidateDetail.{CandidateDetail}
use Rattle.olr_detail.specs.declared.cost.LikelyCost.{LikelyCost}
use Rattle.olr_detail.specs.declared.leg_detail.LegDetail.{LegDetail}
use Rattle.olr_detail.proofs.OneNear.{one_distance, one_near_sector}

one_found : {A : Type 0} (found : Option A) (a b : A) → found ≡ Some a → found ≡ Some b → a ≡ b
one_found found a b is other = cc

-- there is such an element of a list of the same length
at_same : {A B : Type 0} (xs : List A) (ys : List B) (k : ℕ) (y : B) → length ys ≡ length xs
    → slice_get ys k ≡ Some y → (x : A) × (slice_get xs k ≡ Some x)
at_same [] ys k y same is =
    let less : k < length ys = slice_get_within ys k y is in
    absurd (omega (arith, less, same))
at_same (x ∷ xs) ys k y same is =
    let less : k < length ys = slice_get_within ys k y is in
    (get_or (x ∷ xs) k x, slice_get-get_or (x ∷ xs) k x (omega (arith, less, same)))

-- what is told by lines near the point that have the same distance and sector
same_detail : (tolerances : Tolerances) (point : Point) (is_last : Bool) (line : RoadLine)
    (candidate : Candidate) (a b : NearLine) → a.distance ≡ b.distance → a.sector ≡ b.sector
    → detail_by tolerances point is_last (head_of line) a candidate
    ≡ detail_by tolerances point is_last (head_of line) b candidate
same_detail tolerances point is_last line candidate a b distance sector =
    λ k. detail_by tolerances point is_last (head_of line)
    (record a { distance = distance k; sector = sector k }) candidate

module _ (laws : PlaneLaws) where
  on_line : (tolerances : Tolerances) (origin : Coordinates) (point : Point) (is_last : Bool)
      (lines : List RoadLine) (candidate : Candidate) (one other : CandidateDetail)
      (is : IsDetailAt tolerances origin point is_last lines candidate one)
      (its : IsDetailAt tolerances origin point is_last lines candidate other)
      → its.line ≡ is.line → one ≡ other
  on_line tolerances origin point is_last lines candidate one other is its line =
      let near = rw line at its.is_near in
      is.detail_is ∙ (same_detail tolerances point is_last is.line candidate is.near its.near
      (one_distance laws tolerances origin point is_last is.line candidate.place.line is.near its.near is.is_near near)
      (one_near_sector laws tolerances origin point is_last is.line candidate.place.line is.near its.near is.is_near near)
      ∙ sym (rw line at its.detail_is))

  at_point : (tolerances : Tolerances) (origin : Coordinates) (point : Point) (is_last : Bool)
      (lines : List RoadLine) (candidate : Candidate) (one other : CandidateDetail)
      → IsDetailAt tolerances origin point is_last lines candidate one
      → IsDetailAt tolerances origin point is_last lines candidate other → one ≡ other
  at_point tolerances origin point is_last lines candidate one other is its =
      on_line tolerances origin point is_last lines candidate one other is its
      (one_found _ its.line is.line its.line_is is.line_is)

  pub one_detail : OneDetail
  one_detail tolerances reference lines index candidate one other is its =
      let first = one_found _ its.first is.first its.first_is is.first_is in
      let point = one_found _ its.point is.point its.point_is is.point_is in
      at_point tolerances (coordinates_of is.first.at) is.point _ lines candidate one other is.just
      (rw (first, point) at its.just)

  of_point : (tolerances : Tolerances) (reference : Reference) (lines : List RoadLine) (index : ℕ)
      (list : List Candidate) (one other : List CandidateDetail)
      → AreDetailsAt tolerances reference lines index list one
      → AreDetailsAt tolerances reference lines index list other → one ≡ other
  of_point tolerances reference lines index list one other are its =
      by_index one other (are.count ∙ sym its.count) (λ k x y x_is y_is.
      let candidate = at_same list one k x are.count x_is in
      one_detail tolerances reference lines index candidate.0 x y
      (are.each k candidate.0 x candidate.1 x_is) (its.each k candidate.0 y candidate.1 y_is))

  pub one_listing : OneListing
  one_listing tolerances reference lines lists one other are its =
      by_index one other (are.count ∙ sym its.count) (λ k x y x_is y_is.
      let list = at_same lists one k x are.count x_is in
      of_point tolerances reference lines k list.0 x y
      (are.each k list.0 x list.1 x_is) (its.each k list.0 y list.1 y_is))

  -- ---- a matching

  details_once : (tolerances : Tolerances) (reference : Reference) (lines : List RoadLine)
      (candidates : List Candidate) (one other : List CandidateDetail)
      → AreDetailsOf tolerances reference lines candidates one
      → AreDetailsOf tolerances reference lines candidates other → one ≡ other
  details_once tolerances reference lines candidates one other are its =
      by_index one other (are.count ∙ sym its.count) (λ k x y x_is y_is.
      let candidate = at_same candidates one k x are.count x_is in
      one_detail tolerances reference lines k candidate.0 x y
      (are.each k candidate.0 x candidate.1 x_is) (its.each k candidate.0 y candidate.1 y_is))

leads_once : (reference : Reference) (index : ℕ) (one other : Next) → LeadsOn reference index one
    → LeadsOn reference index other → one ≡ other
leads_once reference index one other is its =
    let point = one_found _ its.point is.point its.point_is is.point_is in
    one_found is.point.next one other is.next_is (rw point at its.next_is)

leg_once : (tolerances : Tolerances) (reference : Reference) (index : ℕ) (leg : Leg)
    (one other : LegDetail) → IsLegDetailAt tolerances reference index leg one
    → IsLegDetailAt tolerances reference index leg other → one ≡ other
leg_once tolerances reference index leg one other is its = is.detail_is
    ∙ (ap (λ next. leg_detail_of tolerances next leg)
    (leads_once reference index is.next its.next is.leads_on its.leads_on) ∙ sym its.detail_is)

legs_once : (tolerances : Tolerances) (reference : Reference) (legs : List Leg)
    (one other : List LegDetail) → AreLegDetailsOf tolerances reference legs one
    → AreLegDetailsOf tolerances reference legs other → one ≡ other
legs_once tolerances reference legs one other are its =
    by_index one other (are.count ∙ sym its.count) (λ k x y x_is y_is.
    let leg = at_same legs one k x are.count x_is in
    leg_once tolerances reference k leg.0 x y
    (are.each k leg.0 x leg.1 x_is) (its.each k leg.0 y leg.1 y_is))

decided_once : (a b : Bool) (P : Type 0) → Decides a P → Decides b P → a ≡ b
decided_once true true P is its = refl
decided_once true false P is its = sym (its.1 (is.0 refl))
decided_once false true P is its = is.1 (its.0 refl)
decided_once false false P is its = refl

likely_once : (road : RoadMap) (matched : Matched) (route : List Piece) (one other : LikelyCost)
    → IsLikelyCost road matched route one → IsLikelyCost road matched route other → one ≡ other
likely_once road matched route one other is its =
    let turns = decided_once one.turns_back other.turns_back _ is.turns its.turns in
    let cost = is.cost_is ∙ (ap (cost_of road matched) turns ∙ sym its.cost_is) in
    λ k. record { turns_back = turns k; cost = cost k }

pub one_matching : PlaneLaws → OneMatchingDetail
one_matching laws tolerances reference road matched route one other is its = λ k. record {
  points = details_once laws tolerances reference road.lines matched.candidates one.points
      other.points is.points its.points k;
  legs = legs_once tolerances reference matched.legs one.legs other.legs is.legs its.legs k;
  likely = likely_once road matched route one.likely other.likely is.likely its.likely k;
}
