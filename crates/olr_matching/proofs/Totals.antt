-- The total of a key is the sum of the penalties of its parts.
use Rattle.olr_matching.proofs.Common.{AreLayersOn, Candidate, LayersValue, Leg, RoadMap, ◌≡◌, ℕ, suc, ◌+◌, List, [], ◌∷◌, length, refl, sym, ◌∙◌, ap, subst, arith, Some, slice_get, sum_by, sum_by-cons, same_Some, OneListOfPoint, leg_at, Admits, IsMatching, IsRestBehind, TotalsAreOfParts, AreLegsBetween, IsOfRank}
use Rattle.olr_matching.proofs.Admissible.{leg_of, matching, of_rank}

module _ (road : RoadMap) (layers : LayersValue) (are : AreLayersOn road layers)
    (one_list : OneListOfPoint) where
  -- candidates of the points from this one on have these ranks
  abbrev AreRanked : ℕ → List ℕ → List Candidate → Type 0
  AreRanked index ranks chosen = (k rank : ℕ) (c : Candidate) → slice_get ranks k ≡ Some rank
      → slice_get chosen k ≡ Some c → IsOfRank layers.candidates (index + k) rank c

  -- and these are the legs between each two of them
  abbrev AreBetween : ℕ → List Candidate → List Leg → Type 0
  AreBetween index chosen legs = (k : ℕ) (leg : Leg) (from to : Candidate)
      → slice_get legs k ≡ Some leg → slice_get chosen k ≡ Some from
      → slice_get chosen (suc k) ≡ Some to
      → Admits road layers.tolerances layers.reference (index + k) from to leg.penalty

  abbrev sum_of : List Leg → List Candidate → ℕ
  sum_of legs chosen = sum_by (λ (c : Candidate). c.penalty) chosen
      + sum_by (λ (leg : Leg). leg.penalty) legs

  sum_behind : (ranks : List ℕ) (index rank total : ℕ) (from : Candidate) (chosen : List Candidate)
      (legs : List Leg) → IsOfRank layers.candidates index rank from
      → IsRestBehind road layers.tolerances layers.reference index from ranks total
      → length chosen ≡ length ranks → length legs ≡ length ranks
      → AreRanked (index + 1) ranks chosen → AreBetween index (from ∷ chosen) legs
      → total ≡ sum_of legs chosen
  sum_behind [] index rank total from [] [] is way count legs_count ranked between = way.1
  sum_behind [] index rank total from (c ∷ chosen) legs is way count legs_count ranked between =
      absurd (omega (arith, count))
  sum_behind [] index rank total from [] (leg ∷ legs) is way count legs_count ranked between =
      absurd (omega (arith, legs_count))
  sum_behind (next ∷ ranks) index rank total from [] legs is way count legs_count ranked between =
      absurd (omega (arith, count))
  sum_behind (next ∷ ranks) index rank total from (c ∷ chosen) [] is way count legs_count ranked
      between = absurd (omega (arith, legs_count))
  sum_behind (next ∷ ranks) index rank total from (c ∷ chosen) (leg ∷ legs) is
      (to, penalty, rest, has, admitted, behind, sum) count legs_count ranked between =
      let to_is = of_rank road layers are one_list (index + 1) next to has in
      let c_is : IsOfRank layers.candidates (index + 1) next c =
      subst (λ (n : ℕ). IsOfRank layers.candidates n next c) {x = index + 1 + 0} {y = index + 1}
      (omega arith) (ranked 0 next c refl refl) in
      let same : c ≡ to = same_Some c to (sym c_is.1 ∙ to_is.1) in
      let here : leg_at layers.penalties (index + 1) rank next ≡ Some leg.penalty =
      leg_of road layers are one_list index rank next from c is c_is leg.penalty
      (subst (λ (n : ℕ). Admits road layers.tolerances layers.reference n from c leg.penalty) {x =
      index + 0} {y = index} (omega arith) (between 0 leg from c refl refl refl)) in
      let there = leg_of road layers are one_list index rank next from to is to_is penalty
      admitted in
      let one : leg.penalty ≡ penalty = same_Some leg.penalty penalty (sym here ∙ there) in
      let further = sum_behind ranks (index + 1) next rest c chosen legs c_is
      (subst (λ (x : Candidate). IsRestBehind road layers.tolerances layers.reference (index + 1) x
      ranks rest) (sym same) behind) (omega (arith, count)) (omega (arith, legs_count))
      (λ k r d r_is d_is. subst (λ (n : ℕ). IsOfRank layers.candidates n r d) {x =
      index + 1 + suc k} {y = index + 1 + 1 + k} (omega arith) (ranked (suc k) r d r_is d_is))
      (λ k l a b l_is a_is b_is. subst (λ (n : ℕ). Admits road layers.tolerances layers.reference n
      a b l.penalty) {x = index + suc k} {y = index + 1 + k}
      (omega arith) (between (suc k) l a b l_is a_is b_is)) in
      omega (
        arith,
        sum,
        one,
        ap (λ (x : Candidate). x.penalty) same,
        further,
        sum_by-cons (λ (leg : Leg). leg.penalty) leg legs,
        sum_by-cons (λ (c : Candidate). c.penalty) c chosen,
      )

  sum_of_parts : (ranks : List ℕ) (total : ℕ) (chosen : List Candidate) (legs : List Leg)
      → IsMatching road layers.tolerances layers.reference ranks total
      → length chosen ≡ length ranks → length legs + 1 ≡ length chosen → AreRanked 0 ranks chosen
      → AreBetween 0 chosen legs → total ≡ sum_of legs chosen
  sum_of_parts [] total chosen legs is count legs_count ranked between = absurd is
  sum_of_parts (rank ∷ ranks) total [] legs is count legs_count ranked between =
      absurd (omega (arith, count))
  sum_of_parts (rank ∷ ranks) total (c ∷ chosen) legs (first, rest, has, behind, sum) count
      legs_count ranked between =
      let first_is = of_rank road layers are one_list 0 rank first has in
      let c_is : IsOfRank layers.candidates 0 rank c = ranked 0 rank c refl refl in
      let same : c ≡ first = same_Some c first (sym c_is.1 ∙ first_is.1) in
      let further = sum_behind ranks 0 rank rest c chosen legs c_is
      (subst (λ (x : Candidate). IsRestBehind road layers.tolerances layers.reference 0 x ranks
      rest) (sym same) behind) (omega (arith, count)) (omega (arith, legs_count, count))
      (λ k r d r_is d_is. subst (λ (n : ℕ). IsOfRank layers.candidates n r d) {x = 0 + suc k} {y =
      0 + 1 + k} (omega arith) (ranked (suc k) r d r_is d_is)) between in
      omega (
        arith,
        sum,
        ap (λ (x : Candidate). x.penalty) same,
        further,
        sum_by-cons (λ (c : Candidate). c.penalty) c chosen,
      )

  -- the legs of parts admit their candidates
  between_parts : (chosen : List Candidate) (legs : List Leg)
      → AreLegsBetween road layers chosen legs → AreBetween 0 chosen legs
  between_parts chosen legs they k leg from to leg_is from_is to_is =
      let at = they.each k leg leg_is in
      let one : at.from ≡ from = same_Some at.from from (sym at.from_is ∙ from_is) in
      let other : at.to ≡ to = same_Some at.to to (sym at.to_is
      ∙ subst (λ (n : ℕ). slice_get chosen n ≡ Some to) {x = suc k} {y = k + 1} (omega arith)
      to_is) in
      subst (λ (c : Candidate). Admits road layers.tolerances layers.reference (0 + k) from c
      leg.penalty) other
      (subst (λ (c : Candidate). Admits road layers.tolerances layers.reference (0 + k) c at.to
      leg.penalty) one
      (subst (λ (n : ℕ). Admits road layers.tolerances layers.reference n at.from at.to leg.penalty)
      {x = k} {y = 0 + k} (omega arith) record {
        next = at.next;
        leads_on = at.leads_on;
        length = leg.length;
        admitted = at.leg_is.admitted;
        penalty_is = at.leg_is.penalty;
      }))

pub totals_are : OneListOfPoint → TotalsAreOfParts
totals_are one_list road layers key matched are is parts =
    sum_of_parts road layers are one_list key.ranks key.total matched.candidates matched.legs
    (matching road layers are one_list key.ranks key.total is)
    parts.candidates.count parts.legs.count
    (λ k rank c rank_is c_is. subst (λ (n : ℕ). IsOfRank layers.candidates n rank c) {x = k} {y =
    0 + k} (omega arith) (parts.candidates.each k rank c rank_is c_is))
    (between_parts road layers are one_list matched.candidates matched.legs parts.legs)
