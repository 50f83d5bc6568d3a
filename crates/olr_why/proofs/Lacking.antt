-- A point without candidates, a leg without pairs, and how many pairs a leg has, by the layers of
-- their reference.
use Rattle.olr_why.proofs.Common.{AdmitsPlaces, Candidate, leads_on, points_of, RoadMap, Next, ◌≡◌, ℕ, ◌+◌, ◌*◌, ◌/◌, ◌%◌, ◌<◌, List, [], length, arith, Option, Some, Any, IsSome, slice_index_or, ◌≤◌, div-add-mod, div-lt_iff_lt-mul, mod-lt, slice_get_within, AreLayersOn, LayersValue, length_at, LeadsOn, long, not_empty, AdmitsNone, HasNoCandidate, count_is, layers_count}
use Rattle.olr_why.proofs.Lists.{any_some, some_at}
use Rattle.olr_matching.proofs.Points.{some_at as at_index}
use Rattle.olr_why.proofs.Places.{admits, candidate_in_layer, length_of, place_in_layer}
use Rattle.std.proofs.lemmas.Nat.{mul-le}

module _ {road : RoadMap} {layers : LayersValue} (are : AreLayersOn road layers) where
  -- ---- points

  -- a point whose layer is empty has no candidate
  pub no_candidate : (index : ℕ) → index < length (points_of layers.reference)
      → length (slice_index_or layers.candidates index []) ≡ 0
      → HasNoCandidate road layers.tolerances layers.reference index
  no_candidate index inside none = (
    inside,
    λ place is. let found = candidate_in_layer are is in
        omega (
          arith,
          none,
          slice_get_within (slice_index_or layers.candidates index []) found.0 found.1 found.2,
        ),
  )

  -- else it has one
  pub some_candidate : (index : ℕ) → 0 < length (slice_index_or layers.candidates index [])
      → HasNoCandidate road layers.tolerances layers.reference index → ⊥
  some_candidate index some (inside, none) =
      let found = at_index (slice_index_or layers.candidates index []) 0 some in
      none found.0.place (place_in_layer are index 0 found.0 found.1)

  -- ---- legs

  -- how many lengths a leg has: one for each pair
  pub pairs_count : (index : ℕ) → index + 1 < length (points_of layers.reference)
      → length (slice_index_or layers.lengths index [])
      ≡ length (slice_index_or layers.candidates index []) * length
      (slice_index_or layers.candidates (index + 1) [])
  pairs_count index inside =
      let leads = leads_on layers.reference index are.reference inside in
      long road layers index leads.0 are (omega arith) leads.1

  -- a leg without a length admits no pair
  pub no_pair : (index : ℕ) → index + 1 < length (points_of layers.reference)
      → (Any (λ (l : Option ℕ). IsSome l) (slice_index_or layers.lengths index []) → ⊥)
      → AdmitsNone road layers.tolerances layers.reference index
  no_pair index inside none = (
    inside,
    λ from to from_is to_is it.
        let first = candidate_in_layer are from_is in
        let second = candidate_in_layer are to_is in
        let same : AdmitsPlaces road layers.tolerances layers.reference index first.1.place
        second.1.place = rw (first.3, second.3) it in
        let known = length_of are index first.0 second.0 first.1 second.1 first.2 second.2 same in
        none (any_some (slice_index_or layers.lengths index [])
        (first.0 * length (slice_index_or layers.candidates (index + 1) []) + second.0) known.0
        known.1),
  )

  -- else it admits one
  pub some_pair : (index : ℕ) → Any (λ (l : Option ℕ). IsSome l)
      (slice_index_or layers.lengths index [])
      → AdmitsNone road layers.tolerances layers.reference index → ⊥
  some_pair index some (inside, none) =
      let firsts : List Candidate = slice_index_or layers.candidates index [] in
      let seconds : List Candidate = slice_index_or layers.candidates (index + 1) [] in
      let found = some_at (slice_index_or layers.lengths index []) some in
      let k : ℕ = found.0 in
      let n : ℕ = length seconds in
      let within : k < length firsts * n = omega (arith, found.2, pairs_count index inside) in
      let pos : 0 < n = not_empty k (length firsts) n within in
      let first = at_index firsts (k / n) ((div-lt_iff_lt-mul pos).1 within) in
      let second = at_index seconds (k % n) (mod-lt k pos) in
      let place : k ≡ k / n * n + k % n = omega (arith, div-add-mod k n) in
      let known : length_at layers index (k / n) (k % n) ≡ Some found.1 = rw (← place) found.3 in
      none first.0.place second.0.place (place_in_layer are index (k / n) first.0 first.1)
      (place_in_layer are (index + 1) (k % n) second.0 second.1)
      (admits are index (k / n) (k % n) first.0 second.0 first.1 second.1 found.1 known)

-- ---- how many pairs

module _ {road : RoadMap} {layers : LayersValue} (layer : ℕ) (are : AreLayersOn road layers) where
  -- a point that isn't the last leads on
  pub layer_leads_on : layer + 1 < length layers.candidates → (next : Next)
      × LeadsOn layers.reference layer next
  layer_leads_on within = leads_on layers.reference layer are.reference
      (omega (arith, within, are.lists.all))

  -- a layer has at most 64 candidates
  count_at_most : layer < length layers.candidates
      → length (slice_index_or layers.candidates layer []) ≤ 64
  count_at_most within =
      let at_most = (are.table.layers layer [] (omega (arith, layers_count are))).at_most in
      rw (count_is layers.penalties layers.candidates layer are.penalties) at at_most

-- a leg has at most 4,096 pairs of candidates
pub lengths_at_most : {road : RoadMap} {layers : LayersValue} (layer : ℕ)
    (are : AreLayersOn road layers) → layer + 1 < length layers.candidates
    → length (slice_index_or layers.lengths layer []) ≤ 4096
lengths_at_most layer are within =
    let most = mul-le _ _ 64 64 (count_at_most layer are (omega (arith, within)))
    (count_at_most (layer + 1) are within) in
    omega (arith, pairs_count are layer (omega (arith, within, are.lists.all)), most)
