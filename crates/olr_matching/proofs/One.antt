-- A key has one value of parts at most.
use Rattle.olr_matching.proofs.Common.{Candidate, IsSoundMap, LayersValue, Leg, leg_penalty, Next, Place, RoadMap, Tolerances, ◌≡◌, ℕ, List, sym, ap, ◌∙◌, arith, slice_index_or, slice_get-get_or, slice_get_within, IsRoute, pieces_of, AreCandidatesAt, AreLegsBetween, IsLegAt, IsLegOf, OneMatched}
use Rattle.olr_matching.proofs.Admitted.{one_length}
use Rattle.olr_matching.proofs.Lists.{by_index, same_some}
use Rattle.olr_matching.proofs.Pairs.{one_next}

abbrev pub OneRoute : Type 0
OneRoute = (road : RoadMap) (class : ℕ) (from to : Place) (a b : List ℕ) → IsSoundMap road
    → IsRoute road class from to a → IsRoute road class from to b → a ≡ b

same_candidates : {candidates : List (List Candidate)} {ranks : List ℕ} {a b : List Candidate}
    → AreCandidatesAt candidates ranks a → AreCandidatesAt candidates ranks b → a ≡ b
same_candidates {ranks} {a} one other =
    by_index _ _ (one.count ∙ sym other.count) λ k x y is_x is_y.
    let rank = slice_index_or ranks k 0 in
    let is = slice_get-get_or _ k 0 (omega (arith, slice_get_within a k x is_x)) in
    same_some _ x y (one.each k rank x is is_x).1 (other.each k rank y is is_y).1

module _ (law : OneRoute) {road : RoadMap} (map : IsSoundMap road) where
  same_leg : {tolerances : Tolerances} {next : Next} {from to : Place} {a b : Leg}
      → IsLegOf road tolerances next from to a → IsLegOf road tolerances next from to b → a ≡ b
  same_leg {next} {from} {to} one other =
      let same = one_length _ _ _ _ _ _ one.admitted.is_least other.admitted.is_least in
      let penalty = one.penalty ∙ ap (leg_penalty next) same ∙ sym other.penalty in
      let behind = law _ _ from to one.route.behind other.route.behind map one.route.is
      other.route.is in
      let route = one.route.pieces_are ∙ ap (pieces_of road from to) behind
      ∙ sym other.route.pieces_are in
      λ i. record { length = same i; penalty = penalty i; route = route i }

  same_leg_at : {layers : LayersValue} {chosen : List Candidate} {layer : ℕ} {a b : Leg}
      → IsLegAt road layers chosen layer a → IsLegAt road layers chosen layer b → a ≡ b
  same_leg_at one other =
      let next = one_next _ _ other.next one.next other.leads_on one.leads_on in
      let from = same_some _ other.from one.from other.from_is one.from_is in
      let to = same_some _ other.to one.to other.to_is one.to_is in
      same_leg one.leg_is (rw (next, from, to) at other.leg_is)

  same_legs : {layers : LayersValue} {chosen : List Candidate} {a b : List Leg}
      → AreLegsBetween road layers chosen a → AreLegsBetween road layers chosen b → a ≡ b
  same_legs one other = by_index _ _ (omega arith) λ k x y is_x is_y. same_leg_at
      (one.each k x is_x) (other.each k y is_y)

pub one_matched : OneRoute → OneMatched
one_matched law road layers key a b map one other =
    let candidates = same_candidates one.candidates other.candidates in
    let legs = same_legs law map one.legs (rw (sym candidates) at other.legs) in
    λ i. record { candidates = candidates i; legs = legs i }
