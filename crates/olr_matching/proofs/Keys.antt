-- The ranks of a key of the answers name a candidate of each layer, and each leg admits the two
-- between which it leads.
use Rattle.olr_matching.proofs.Common.{Candidate, leg_penalty, points_of, RoadMap, ◌≡◌, ℕ, zero, suc, ◌+◌, ◌-◌, ◌<◌, List, [], ◌∷◌, length, map, refl, sym, subst, ap, ◌∙◌, arith, Option, Some, None, option_map, slice_get, slice_index_or, same_Some, slice_get-map, IsCompletion, Penalties, leg_at, penalty_at, LayersValue, AreLayersOn, length_at, penalties_of, AreRanks, IsOfRank}
use Rattle.olr_matching.proofs.LegLaws.{layer_is, leg_is}
use Rattle.olr_matching.proofs.Lists.{list_inside}
use Rattle.olr_matching.proofs.Points.{leads_on}

-- ---- the table

-- the ranks lead through all layers
pub ranks_count : (p : Penalties) (layer : ℕ) (before : Option ℕ) (ranks : List ℕ) (total : ℕ)
    → IsCompletion p layer before ranks total → layer + length ranks ≡ length p.candidates
ranks_count p layer before [] total way = omega arith
ranks_count p layer before (rank ∷ ranks) total (leg, penalty, rest, joined, there, behind, sum) =
    omega (arith, ranks_count p (layer + 1) (Some rank) ranks rest behind)

-- each rank has a penalty
pub penalty_of_rank : (p : Penalties) (layer : ℕ) (before : Option ℕ) (ranks : List ℕ) (total : ℕ)
    → IsCompletion p layer before ranks total
    → (k rank : ℕ) → slice_get ranks k ≡ Some rank → (penalty : ℕ)
    × (penalty_at p (layer + k) rank ≡ Some penalty)
penalty_of_rank p layer before [] total way k rank is = absurd cc
penalty_of_rank p layer before (here ∷ ranks) total (leg, penalty, rest, joined, there, behind, sum)
    zero rank is =
    let same = same_Some here _ is in (
      penalty,
      subst (λ n. penalty_at p n rank ≡ Some penalty) {x = layer} (omega arith) (rw same at there),
    )
penalty_of_rank p layer before (here ∷ ranks) total (leg, penalty, rest, joined, there, behind, sum)
    (suc k) rank is =
    subst (λ n. (penalty : ℕ) × (penalty_at p n rank ≡ Some penalty)) {x = layer + 1 + k}
    (omega arith) (penalty_of_rank p (layer + 1) (Some here) ranks rest behind k rank is)

-- and each two neighbours have the penalty of a leg
pub penalty_of_leg : (p : Penalties) (layer : ℕ) (before : Option ℕ) (ranks : List ℕ) (total : ℕ)
    → IsCompletion p layer before ranks total
    → (k first second : ℕ) → slice_get ranks k ≡ Some first → slice_get ranks (suc k) ≡ Some second
    → (leg : ℕ) × (leg_at p (layer + k + 1) first second ≡ Some leg)
penalty_of_leg p layer before [] total way k first second is then = absurd cc
penalty_of_leg p layer before (here ∷ []) total way k first second is then = absurd cc
penalty_of_leg p layer before (here ∷ next ∷ ranks) total (
  leg,
  penalty,
  rest,
  joined,
  there,
  (leg', penalty', rest', joined', there', behind', sum'),
  sum,
) zero first second is then =
    let one = same_Some here _ is in
    let other = same_Some next second then in (
      leg',
      subst (λ n. leg_at p n first second ≡ Some leg') {x = layer + 1} (omega arith) (
          subst (λ (r : ℕ). leg_at p (layer + 1) first r ≡ Some leg') other (
          subst (λ (r : ℕ). leg_at p (layer + 1) r next ≡ Some leg') one joined')),
    )
penalty_of_leg p layer before (here ∷ next ∷ ranks) total
    (leg, penalty, rest, joined, there, behind, sum) (suc k) first second is then =
    subst (λ n. (leg : ℕ) × (leg_at p n first second ≡ Some leg)) {x = layer + 1 + k + 1}
    (omega arith)
    (penalty_of_leg p (layer + 1) (Some here) (next ∷ ranks) rest behind k first second is then)

-- ---- the layers

mapped_some : {X Y : Type 0} (f : X → Y) (o : Option X) (y : Y) → option_map f o ≡ Some y → (x : X)
    × (o ≡ Some x) × (f x ≡ y)
mapped_some f None y is = absurd cc
mapped_some f (Some x) y is = (x, refl, same_Some (f x) y is)

-- a penalty of the table is that of the candidate of its rank
pub candidate_of_penalty : (layers : LayersValue) (layer rank penalty : ℕ)
    → layers.penalties.candidates ≡ map penalties_of layers.candidates
    → penalty_at layers.penalties layer rank ≡ Some penalty
    → (candidate : Candidate) × IsOfRank layers.candidates layer rank candidate
    × (candidate.penalty ≡ penalty)
candidate_of_penalty layers layer zero penalty same is = absurd cc
candidate_of_penalty layers layer (suc index) penalty same is =
    let here = slice_index_or layers.candidates layer [] in
    let there = ap (λ l. slice_get l index) (sym (layer_is layers.penalties _ _ same)) ∙ is in
    let found = mapped_some _ _ _
    (sym (slice_get-map (λ c. c.penalty) here _) ∙ there) in (
      found.0,
      (omega arith, subst (λ n. slice_get here n ≡ Some found.0) {x = index} (omega arith) found.1),
      found.2,
    )

-- ---- the key

pub are_ranks : (road : RoadMap) (layers : LayersValue) (ranks : List ℕ) (total : ℕ)
    → AreLayersOn road layers
    → IsCompletion layers.penalties 0 None ranks total → AreRanks layers ranks
are_ranks road layers ranks total sound way = record {
  each = λ layer rank is.
      let found = penalty_of_rank layers.penalties 0 None ranks total way layer rank is in
      let at = candidate_of_penalty layers layer rank found.0 sound.penalties
      (subst (λ (n : ℕ). penalty_at layers.penalties n rank ≡ Some found.0) {x = 0 + layer}
      (omega arith) found.1) in
      (at.0, at.1);
  pairs = λ layer first second is then.
      let after : slice_get ranks (suc layer) ≡ Some second =
      subst (λ (n : ℕ). slice_get ranks n ≡ Some second) {x = layer + 1} (omega arith) then in
      let found = penalty_of_leg layers.penalties 0 None ranks total way layer first second is
      after in
      let one = penalty_of_rank layers.penalties 0 None ranks total way layer first is in
      let other = penalty_of_rank layers.penalties 0 None ranks total way (layer + 1) second then in
      let from = candidate_of_penalty layers layer first one.0 sound.penalties
      (subst (λ (n : ℕ). penalty_at layers.penalties n first ≡ Some one.0) {x = 0 + layer}
      (omega arith) one.1) in
      let to = candidate_of_penalty layers (layer + 1) second other.0 sound.penalties
      (subst (λ (n : ℕ). penalty_at layers.penalties n second ≡ Some other.0) {x = 0 + (layer + 1)}
      (omega arith) other.1) in
      let inside : layer + 1 < length (points_of layers.reference) =
      subst (λ (n : ℕ). layer + 1 < n) sound.lists.all
      (list_inside layers.candidates (layer + 1) (second - 1) to.0 to.1.1) in
      let next = leads_on layers.reference layer sound.reference inside in
      let leg = leg_is layers.penalties layers.candidates layer first second
      (slice_index_or layers.lengths layer []) next.0 sound.penalties
      (sound.legs layer next.0 next.1) in
      let long = mapped_some (leg_penalty next.0) (length_at layers layer (first - 1) (second - 1))
      found.0
      (sym leg ∙ subst (λ (n : ℕ). leg_at layers.penalties n first second ≡ Some found.0) {x =
      0 + layer + 1} (omega arith) found.1) in (
        long.0,
        record {
          next = next.0;
          from = from.0;
          to = to.0;
          leads_on = next.1;
          from_is = from.1;
          to_is = to.1;
          length_is = long.1;
        },
      );
}
