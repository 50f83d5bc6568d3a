-- The parts of every matching are such that what speaks for it can be told.
use Rattle.std.proofs.Common.{◌≡◌, ℕ, zero, suc, ◌-◌, ◌<◌, Bool, List, [], ◌∷◌, Some, length, refl, subst, sym, arith, slice_get}
use Rattle.std.proofs.lemmas.Option.{get_or_from_slice_get, none-some, slice_get-get_or, slice_get_within}
use Rattle.std.specs.Prelude.{slice_index_or}
use Rattle.olr_base.specs.Coordinates.{Coordinates}
use Rattle.olr_binary.specs.declared.point.Point.{Point}
use Rattle.olr_binary.specs.declared.reference.Reference.{Reference}
use Rattle.olr_road.specs.RoadMap.{RoadLine}
use Rattle.olr_candidates.specs.Candidates.{IsCandidateAt, IsOneOf}
use Rattle.olr_candidates.specs.Points.{AreLists, IsCandidateOf as IsOfPoint, IsListOf}
use Rattle.olr_candidates.specs.declared.candidate.Candidate.{Candidate}
use Rattle.olr_candidates.specs.declared.tolerances.Tolerances.{Tolerances}
use Rattle.olr_matching.specs.Layers.{IsCandidateOf}
use Rattle.olr_detail.specs.MatchingDetail.{MatchingsCanBeDetailed}

-- what a list of lists has in the list of this index
list_at : {A : Type 0} (lists : List (List A)) (layer index : ℕ) (a : A)
    → slice_get (slice_index_or lists layer []) index ≡ Some a
    → slice_get lists layer ≡ Some (slice_index_or lists layer [])
list_at [] layer index a is = absurd (none-some a is)
list_at (first ∷ rest) zero index a is = refl
list_at (first ∷ rest) (suc layer) index a is = list_at rest layer index a is

-- a candidate of a point is that of its line
module _ (tolerances : Tolerances) (origin : Coordinates) (point : Point) (is_last : Bool)
    (lines : List RoadLine) where
  pub of_its_line : (candidate : Candidate) → IsOneOf tolerances origin point is_last lines candidate
      → IsCandidateAt tolerances origin point is_last lines candidate.place.line candidate
  of_its_line candidate one =
      subst (λ rank. IsCandidateAt tolerances origin point is_last lines rank candidate)
      (sym one.1.2.rates.line_is) one.1

-- each candidate of the list of a point is one of it
pub listed : (tolerances : Tolerances) (reference : Reference) (lines : List RoadLine)
    (index : ℕ) (list : List Candidate) → IsListOf tolerances reference lines index list
    → (k : ℕ) (d : Candidate) → k < length list
    → IsOfPoint tolerances reference lines index (slice_index_or list k d).place.line
    (slice_index_or list k d)
listed tolerances reference lines index list is k d inside = record {
  first = is.0.first;
  point = is.0.point;
  first_is = is.0.first_is;
  point_is = is.0.point_is;
  just = of_its_line _ _ _ _ _ (slice_index_or list k d) (is.0.just.only k d inside);
}

-- a candidate of a layer is one of its point
of_point : (tolerances : Tolerances) (reference : Reference) (lines : List RoadLine)
    (lists : List (List Candidate)) (layer index : ℕ) (candidate : Candidate)
    → AreLists tolerances reference lines lists → IsCandidateOf lists layer index candidate
    → IsOfPoint tolerances reference lines layer candidate.place.line candidate
of_point tolerances reference lines lists layer index candidate are is =
    let list = slice_index_or lists layer [] in
    let same = get_or_from_slice_get list index candidate candidate is in
    subst (λ (one : Candidate). IsOfPoint tolerances reference lines layer one.place.line one) same
    (listed tolerances reference lines layer list
    (are.each layer list (list_at lists layer index candidate is)) index candidate
    (slice_get_within list index candidate is))

pub can_be_detailed : MatchingsCanBeDetailed
can_be_detailed road layers key matched on is = record {
  count = is.legs.count;
  candidates = λ index candidate at.
      let ranks = key.ranks in
      let rank = slice_index_or ranks index 0 in
      let inside = slice_get_within matched.candidates index candidate at in
      let of_rank = is.candidates.each index rank candidate
      (slice_get-get_or ranks index 0 (omega (arith, inside, is.candidates.count))) at in
      of_point layers.tolerances layers.reference road.lines layers.candidates index (rank - 1)
      candidate on.lists of_rank.1;
  legs = λ index leg at.
      let of_leg = is.legs.each index leg at in (of_leg.next, of_leg.leads_on);
}
