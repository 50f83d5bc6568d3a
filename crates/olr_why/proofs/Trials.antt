-- What is found with some tolerances, by the candidates of the points and the keys of the layers'
-- table.
use Rattle.olr_why.proofs.Common.{AreAnswers, Penalties, AdmitsPlaces, AreLayersOn, Candidate, HasMatching, IsUncrowded, KeyValue, LayersValue, MatchingHasKey, NoListsAndTooMany, points_of, Reference, RoadMap, Tolerances, ◌≡◌, zero, suc, ◌⊎◌, List, [], ◌∷◌, Option, None, Some, inl, inr, refl, ap, arith, AllPairs, Contains, slice_get, ℕ, ◌+◌, ◌*◌, ◌<◌, length, get_or, ◌∙◌, subst, All, Any, slice_index_or, IsFirstKey, IsTrial, cases_lt, get_or-map, get_or_past, length-map, nil_from_length, slice_get-get_or, slice_get_within, AreLists, lists_of, IsAdmittedLength, list_of, IsBefore}
use Rattle.olr_keys.specs.Finder.{IsNext}
use Rattle.olr_keys.specs.Order.{asymmetric}
use Rattle.arrayvec.specs.ArrayVec.{ArrayVec, array_vec_len}
use Rattle.olr_matching.specs.Lengths.{HasLegWithoutPair}
use Rattle.olr_why.specs.declared.trial.Trial.TheVariants.{Matching, NoMatching}
use Rattle.olr_why.proofs.Places.{candidate_at}
use Rattle.olr_why.proofs.Tuples.{candidate_of, pair_of}

-- ---- the first key of a table is the least of its keys

-- the first of a rising list is a member of it before which no other comes
first_is_least : (first : KeyValue) (rest : List KeyValue) (least : KeyValue)
    → AllPairs IsBefore (first ∷ rest) → Contains (first ∷ rest) least
    → (first ≡ least) ⊎ IsBefore least first → first ≡ least
first_is_least first rest least rise there (inl same) = same
first_is_least first rest least rise (zero, inside, is) (inr before) = is
first_is_least first rest least rise (suc k, inside, is) (inr before) =
    absurd (asymmetric first least (rw is at (rise 0 (suc k) least (omega arith) inside)) before)

least_is_first : (answers : List KeyValue) (found : Option KeyValue) → AllPairs IsBefore answers
    → IsNext answers None found → slice_get answers 0 ≡ found
least_is_first [] None rise next = refl
least_is_first [] (Some least) rise next = absurd (omega (arith, next.0.0.1))
least_is_first (first ∷ rest) None rise next = absurd (next first ((0, omega arith, refl), tt))
least_is_first (first ∷ rest) (Some least) rise next =
    let there : Contains (first ∷ rest) first = (0, omega arith, refl) in
    ap (λ (key : KeyValue). Some key)
    (first_is_least first rest least rise next.0.0 (next.1 first (there, tt)))

pub first_key : (penalties : Penalties) (answers : List KeyValue) (found : Option KeyValue)
    → AreAnswers penalties answers → IsNext answers None found → IsFirstKey penalties found
first_key penalties answers found are next =
    record { answers = answers; are = are; is = least_is_first answers found are.rise next }

-- a list without elements is an empty one
empty_contained : (lists : List (ArrayVec Candidate))
    → Any (λ (list : ArrayVec Candidate). array_vec_len list ≡ 0) lists
    → Contains (lists_of lists) []
empty_contained lists (k, list, inside, is, none) =
    let items : ArrayVec Candidate → List Candidate = λ v. v.items in
    let empty : list.items ≡ [] = nil_from_length list.items none in (
      k,
      omega (arith, inside, length-map lists items),
      subst (λ (d : List Candidate). get_or (lists_of lists) k d ≡ d) empty
          (get_or-map items lists k list (items list) inside ∙ ap items is),
    )

-- a list of nothing but none has none at each index
none_at : (lengths : List (Option ℕ)) (k : ℕ) → All (λ (length : Option ℕ). length ≡ None) lengths
    → slice_index_or lengths k None ≡ None
none_at lengths k none = elim (cases_lt k (length lengths)) [
  | inl inside ↦ none k None inside
  | inr outside ↦ get_or_past lengths k None outside
]

-- a list without a first one is empty
none_contained : (answers : List KeyValue) (key : KeyValue) → slice_get answers 0 ≡ None
    → Contains answers key → ⊥
none_contained [] key none there = omega (arith, there.1)
none_contained (first ∷ rest) key none there = cc

-- where each point has its list, none has too many
pub uncrowded : (road : RoadMap) {tolerances : Tolerances} {reference : Reference}
    {lists : List (List Candidate)}
    → AreLists tolerances reference road.lines lists → NoListsAndTooMany
    → IsUncrowded road tolerances reference
uncrowded road are law index inside many = law _ _ road.lines _ index are many

module _ {road : RoadMap} {tolerances : Tolerances} {reference : Reference} where
  -- ---- by the candidates of the points

  module _ {lists : List (List Candidate)} (are : AreLists tolerances reference road.lines lists)
    where
      -- where a list is empty, there is no matching
      none_with_empty : Contains lists [] → HasMatching road tolerances reference → ⊥
      none_with_empty (index, inside, empty) matching =
          let at : slice_get lists index ≡ Some [] = slice_get-get_or lists index [] inside
          ∙ ap Some empty in
          let has = candidate_of index (omega (arith, inside, are.all)) matching in
          let found = candidate_at (are.each index [] at).0 has.1 in
          absurd (omega (arith, slice_get_within [] found.0 found.1 found.2))

      -- nor where a leg admits no pair of the candidates
      none_without_pair : HasLegWithoutPair road tolerances reference lists
          → HasMatching road tolerances reference → ⊥
      none_without_pair lacks matching =
          let index : ℕ = lacks.layer in
          let inside : index + 1 < length (points_of reference) =
          omega (arith, lacks.within, are.all) in
          let pair = pair_of index inside matching in
          let first = candidate_at (list_of _ _ _ _ index are (omega (arith, inside, are.all))).0
          pair.2 in
          let second = candidate_at (list_of _ _ _ _ (index + 1) are
          (omega (arith, inside, are.all))).0 pair.3 in
          let same : AdmitsPlaces road tolerances reference index first.1.place second.1.place =
          rw (first.3, second.3) pair.4 in
          let known = (lacks.are same.next same.leads_on).each first.0 second.0 first.1 second.1
          first.2 second.2 in
          (subst (IsAdmittedLength road tolerances same.next first.1.place second.1.place)
          (none_at lacks.lengths (first.0 * length (slice_index_or lists (index + 1) []) + second.0)
          lacks.none) known) same.length same.admitted

  pub trial_without_pair : {lists : List (List Candidate)} → NoListsAndTooMany
      → AreLists tolerances reference road.lines lists
      → HasLegWithoutPair road tolerances reference lists → IsTrial road tolerances reference
      NoMatching
  trial_without_pair law are lacks = (uncrowded road are law, none_without_pair are lacks)

  pub trial_with_empty : NoListsAndTooMany → (lists : List (ArrayVec Candidate))
      → AreLists tolerances reference road.lines (lists_of lists)
      → Any (λ (list : ArrayVec Candidate). array_vec_len list ≡ 0) lists
      → IsTrial road tolerances reference NoMatching
  trial_with_empty law lists are empty =
      (uncrowded road are law, none_with_empty are (empty_contained lists empty))

  -- ---- by the keys of the layers' table

  module _ {layers : LayersValue} (on : AreLayersOn road layers)
      (reference_is : layers.reference ≡ reference)
      (tolerances_is : layers.tolerances ≡ tolerances) (too_many : NoListsAndTooMany) where
    uncrowded_layers : IsUncrowded road tolerances reference
    uncrowded_layers =
        uncrowded road {lists = layers.candidates} (rw (← reference_is, ← tolerances_is) on.lists)
        too_many

    pub trial_matching : {key : KeyValue} → IsFirstKey layers.penalties (Some key)
        → IsTrial road tolerances reference (Matching key)
    trial_matching first = (
      uncrowded_layers,
      record {
        layers = layers;
        on = on;
        reference_is = reference_is;
        tolerances_is = tolerances_is;
        answers = first.answers;
        are = first.are;
        first = first.is;
      },
    )

    pub trial_without : MatchingHasKey → IsFirstKey layers.penalties None
        → IsTrial road tolerances reference NoMatching
    trial_without law none = (
      uncrowded_layers,
      λ matching.
          let key = (law road layers on).0 (rw (reference_is, tolerances_is) matching) in
          none_contained none.answers key.0 none.is (none.are.each key.0 key.1),
    )
