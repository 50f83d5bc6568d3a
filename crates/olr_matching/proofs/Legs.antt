-- The legs of a matching, one after the other.
use Rattle.olr_matching.proofs.Common.{Candidate, LayersValue, Leg, RoadMap, ◌≡◌, ℕ, ◌+◌, ◌<◌, List, [], ◌∷◌, ◌++◌, length, sym, subst, ap, ◌∙◌, arith, Some, slice_get, slice_index_or, get_or_from_slice_get, slice_get-get_or, slice_get_within, KeyValue, AreCandidatesAt, IsLegAt, IsLegOfPair, IsMatchedBy}
use Rattle.olr_matching.specs.declared.matched.Matched.{Matched}
use Rattle.olr_matching.proofs.Lists.{push_each, same_some}

-- the first legs between each two neighbouring candidates
abbrev pub AreFirstLegs : RoadMap → LayersValue → List ℕ → List Leg → Type 0
AreFirstLegs road layers ranks legs = (layer : ℕ) (leg : Leg) → slice_get legs layer ≡ Some leg
    → (first second : ℕ) → slice_get ranks layer ≡ Some first
    → slice_get ranks (layer + 1) ≡ Some second → IsLegOfPair road layers layer first second leg

-- one leg more
pub push_leg : (road : RoadMap) (layers : LayersValue) (ranks : List ℕ) (legs pushed : List Leg)
    (leg : Leg) (layer : ℕ) → length legs ≡ layer → pushed ≡ legs ++ leg ∷ []
    → AreFirstLegs road layers ranks legs
    → IsLegOfPair road layers layer (slice_index_or ranks layer 0)
    (slice_index_or ranks (layer + 1) 0) leg → AreFirstLegs road layers ranks pushed
push_leg road layers ranks legs pushed leg layer count is they here =
    let P : ℕ → Leg → Type 0 = λ layer leg. (first second : ℕ) → slice_get ranks layer ≡ Some first
    → slice_get ranks (layer + 1) ≡ Some second → IsLegOfPair road layers layer first second leg in
    let last : P layer leg = λ first second is_first is_second.
    rw (get_or_from_slice_get ranks (layer + 1) second 0 is_second) at (
    subst (λ (n : ℕ). IsLegOfPair road layers layer n (slice_index_or ranks (layer + 1) 0) leg)
    (get_or_from_slice_get ranks layer first 0 is_first) here) in
    rw (sym is) at (push_each P legs leg they (subst (λ (n : ℕ). P n leg) (sym count) last))

-- the candidate of a rank is that of the pair
leg_at : (road : RoadMap) (layers : LayersValue) (ranks : List ℕ) (chosen : List Candidate)
    (legs : List Leg) → length legs + 1 ≡ length ranks
    → AreCandidatesAt layers.candidates ranks chosen → AreFirstLegs road layers ranks legs
    → (layer : ℕ) (leg : Leg) → slice_get legs layer ≡ Some leg
    → IsLegAt road layers chosen layer leg
leg_at road layers ranks chosen legs count candidates they layer leg is =
    let inside : layer < length legs = slice_get_within legs layer leg is in
    let is_one = slice_get-get_or ranks layer 0 (omega (arith, inside, count)) in
    let is_other = slice_get-get_or ranks (layer + 1) 0 (omega (arith, inside, count)) in
    let found = they layer leg is _ _ is_one is_other in
    let pair = found.pair in
    let is_from = slice_get-get_or chosen layer pair.from
    (omega (arith, inside, count, candidates.count)) in
    let is_to = slice_get-get_or chosen (layer + 1) pair.to
    (omega (arith, inside, count, candidates.count)) in
    record {
      next = pair.next;
      from = pair.from;
      to = pair.to;
      leads_on = pair.leads_on;
      from_is = is_from ∙ ap Some (same_some _ _ _ (candidates.each layer _ _ is_one is_from).1
          pair.from_is.1);
      to_is = is_to ∙ ap Some (same_some _ _ _ (candidates.each (layer + 1) _ _ is_other is_to).1
          pair.to_is.1);
      leg_is = found.leg_is;
    }

pub are_parts : (road : RoadMap) (layers : LayersValue) (key : KeyValue) (ranks : List ℕ)
    (matched : Matched) → ranks ≡ key.ranks
    → AreCandidatesAt layers.candidates ranks matched.candidates
    → length matched.legs + 1 ≡ length ranks
    → AreFirstLegs road layers ranks matched.legs → IsMatchedBy road layers key matched
are_parts road layers key ranks matched same candidates count legs = record {
  candidates = rw same at candidates;
  legs = record {
    count = count ∙ sym candidates.count;
    each = leg_at _ _ _ _ _ count candidates legs;
  };
}
