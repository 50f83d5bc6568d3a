-- The keys of the table of layers are those of the matchings of their reference.
use Rattle.olr_matching.proofs.Common.{AreLayersOn, Candidate, class_limit, IsOfRank, LayersValue, LeadsOn, leg_penalty, Next, points_of, RoadMap, ◌≡◌, ℕ, zero, suc, ◌+◌, ◌-◌, ◌<◌, List, [], ◌∷◌, length, get_or, refl, sym, ◌∙◌, ap, subst, arith, Option, None, Some, option_map, slice_get, slice_index_or, same_Some, slice_get-get_or, slice_get_within, OneListOfPoint, IsCompletion, leg_at, penalty_at, Admits, HasCandidate, IsMatching, IsRestBehind, KeysAreOfMatchings, IsAdmittedPenalty}
use Rattle.olr_matching.proofs.Admitted.{one_length}
use Rattle.olr_matching.proofs.Keys.{candidate_of_penalty}
use Rattle.olr_matching.proofs.LegLaws.{layers_count, leg_of_ranks, penalties_are}
use Rattle.olr_matching.proofs.Lists.{list_inside}
use Rattle.olr_matching.proofs.Pairs.{candidates_at}
use Rattle.olr_matching.proofs.Points.{leads_on}

module _ (road : RoadMap) (layers : LayersValue) (are : AreLayersOn road layers)
    (one_list : OneListOfPoint) where
  -- ---- a candidate

  -- the candidate of a rank has its penalty there
  penalty_of : (index rank : ℕ) (c : Candidate) → IsOfRank layers.candidates index rank c
      → penalty_at layers.penalties index rank ≡ Some c.penalty
  penalty_of index zero c is = absurd (omega (arith, is.0))
  penalty_of index (suc k) c is =
      let here = slice_index_or layers.candidates index [] in
      let at : slice_get here k ≡ Some c =
      subst (λ (n : ℕ). slice_get here n ≡ Some c) {x = suc k - 1} {y = k} (omega arith) is.1 in
      subst (λ (n : ℕ). penalty_at layers.penalties index n ≡ Some c.penalty) {x = k + 1} {y =
      suc k} (omega arith)
      (penalties_are road layers index k are
      ∙ ap (λ (o : Option Candidate). option_map (λ (c : Candidate). c.penalty) o) at)

  has_candidate : (index rank : ℕ) (c : Candidate) → IsOfRank layers.candidates index rank c
      → HasCandidate road layers.tolerances layers.reference index rank c
  has_candidate index rank c is = record {
    candidates = slice_index_or layers.candidates index [];
    all = candidates_at road layers index (rank - 1) c are is.1;
    at_least = is.0;
    is = is.1;
  }

  pub of_rank : (index rank : ℕ) (c : Candidate)
      → HasCandidate road layers.tolerances layers.reference index rank c
      → IsOfRank layers.candidates index rank c
  of_rank index rank c has =
      let inside : index < length layers.candidates = omega (
        arith,
        slice_get_within (points_of layers.reference) index has.all.point has.all.point_is,
        are.lists.all,
      ) in
      let here = get_or layers.candidates index [] in
      let listed = (are.lists.each index here
      (slice_get-get_or layers.candidates index [] inside)).0 in
      let same : has.candidates ≡ here =
      one_list layers.tolerances layers.reference road.lines index has.candidates here has.all
      listed in
      (has.at_least, subst (λ (l : List Candidate). slice_get l (rank - 1) ≡ Some c) same has.is)

  -- ---- a leg

  module _ (index first second : ℕ) (from to : Candidate)
      (from_is : IsOfRank layers.candidates index first from)
      (to_is : IsOfRank layers.candidates (index + 1) second to) where
    -- what the table has for two candidates, by the attributes of the path between their points
    in_table : (next : Next) → LeadsOn layers.reference index next
        → IsAdmittedPenalty road layers.tolerances next from.place to.place
        (leg_at layers.penalties (index + 1) first second)
    in_table next leads = leg_of_ranks road layers index first second next from to are leads
        from_is.1 to_is.1

    admits : (leg : ℕ) → leg_at layers.penalties (index + 1) first second ≡ Some leg
        → Admits road layers.tolerances layers.reference index from to leg
    admits leg is =
        let inside : index + 1 < length (points_of layers.reference) = omega (
          arith,
          list_inside layers.candidates (index + 1) (second - 1) to to_is.1,
          are.lists.all,
        ) in
        let leads = leads_on layers.reference index are.reference inside in
        let found = subst (IsAdmittedPenalty road layers.tolerances leads.0 from.place to.place) is
        (in_table leads.0 leads.1) in
        record {
          next = leads.0;
          leads_on = leads.1;
          length = found.0;
          admitted = found.1;
          penalty_is = found.2;
        }

    -- two places are admitted with one penalty at most
    one_penalty : (leg : ℕ) (it : Admits road layers.tolerances layers.reference index from to leg)
        (found : Option ℕ)
        → IsAdmittedPenalty road layers.tolerances it.next from.place to.place found
        → found ≡ Some leg
    one_penalty leg it None never = absurd (never it.length it.admitted)
    one_penalty leg it (Some penalty) is =
        let same : is.0 ≡ it.length =
        one_length road (class_limit layers.tolerances it.next) from.place to.place is.0 it.length
        is.1.is_least it.admitted.is_least in
        ap (λ (n : ℕ). Some n) (is.2 ∙ ap (leg_penalty it.next) same ∙ sym it.penalty_is)

    pub leg_of : (leg : ℕ) → Admits road layers.tolerances layers.reference index from to leg
        → leg_at layers.penalties (index + 1) first second ≡ Some leg
    leg_of leg it = one_penalty leg it (leg_at layers.penalties (index + 1) first second)
        (in_table it.next it.leads_on)

  -- ---- the rest of a matching

  count : length layers.penalties.candidates ≡ length (points_of layers.reference)
  count = layers_count are ∙ are.lists.all

  rest_behind : (index rank : ℕ) (from : Candidate) (ranks : List ℕ) (total : ℕ)
      → IsOfRank layers.candidates index rank from
      → IsCompletion layers.penalties (index + 1) (Some rank) ranks total
      → IsRestBehind road layers.tolerances layers.reference index from ranks total
  rest_behind index rank from [] total is way = (way.0 ∙ count, way.1)
  rest_behind index rank from (next ∷ ranks) total is
      (leg, penalty, rest, joined, there, behind, sum) =
      let to = candidate_of_penalty layers (index + 1) next penalty are.penalties there in (
        to.0,
        leg,
        rest,
        has_candidate (index + 1) next to.0 to.1,
        admits index rank next from to.0 is to.1 leg joined,
        rest_behind (index + 1) next to.0 ranks rest to.1 behind,
        omega (arith, sum, to.2),
      )

  completion : (index rank : ℕ) (from : Candidate) (ranks : List ℕ) (total : ℕ)
      → IsOfRank layers.candidates index rank from
      → IsRestBehind road layers.tolerances layers.reference index from ranks total
      → IsCompletion layers.penalties (index + 1) (Some rank) ranks total
  completion index rank from [] total is way = (way.0 ∙ sym count, way.1)
  completion index rank from (next ∷ ranks) total is (to, leg, rest, has, admitted, behind, sum) =
      let to_is = of_rank (index + 1) next to has in (
        leg,
        to.penalty,
        rest,
        leg_of index rank next from to is to_is leg admitted,
        penalty_of (index + 1) next to to_is,
        completion (index + 1) next to ranks rest to_is behind,
        sum,
      )

  -- ---- the whole

  pub matching : (ranks : List ℕ) (total : ℕ) → IsCompletion layers.penalties 0 None ranks total
      → IsMatching road layers.tolerances layers.reference ranks total
  matching [] total way = absurd (omega (arith, way.0, are.table.layers_at_least))
  matching (rank ∷ ranks) total (leg, penalty, rest, joined, there, behind, sum) =
      let first = candidate_of_penalty layers 0 rank penalty are.penalties there in (
        first.0,
        rest,
        has_candidate 0 rank first.0 first.1,
        rest_behind 0 rank first.0 ranks rest first.1 behind,
        omega (arith, sum, first.2, same_Some 0 leg joined),
      )

  key : (ranks : List ℕ) (total : ℕ)
      → IsMatching road layers.tolerances layers.reference ranks total
      → IsCompletion layers.penalties 0 None ranks total
  key [] total is = absurd is
  key (rank ∷ ranks) total (first, rest, has, behind, sum) =
      let first_is = of_rank 0 rank first has in (
        0,
        first.penalty,
        rest,
        refl,
        penalty_of 0 rank first first_is,
        completion 0 rank first ranks rest first_is behind,
        omega (arith, sum),
      )

pub keys_are : OneListOfPoint → KeysAreOfMatchings
keys_are one_list road layers it are = (
  matching road layers are one_list it.ranks it.total,
  key road layers are one_list it.ranks it.total,
)
