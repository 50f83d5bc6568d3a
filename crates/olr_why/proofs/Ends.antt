-- Where tuples end by the layers of a reference, and by the places of its candidates: so there is a
-- tuple of the first points exactly where one ends at their last one.
use Rattle.olr_why.proofs.Common.{Candidate, points_of, RoadMap, ◌≡◌, ℕ, zero, suc, add-one, ◌+◌, ◌-◌, ◌<◌, ◌≤◌, List, [], ◌∷◌, length, refl, subst, arith, ⊤, Any, Contains, slice_index_or, slice_get_within, AreLayersOn, IsCandidateOf, LayersValue, length_at, at_least_two, AdmitsPlaces, HasMatching, HasTuple, AreEnds, IsEnd, IsJoined, HasNoTuple, IsFirst, some_at}
use Rattle.olr_why.proofs.Lists.{AreBelow, is_some_from, some_of}
use Rattle.olr_why.proofs.Places.{admits, candidate_in_layer, length_of, place_in_layer}
use Rattle.olr_why.proofs.Tuples.{EndsAt, ends_at_candidate, fewer, last_of, tuple_to}

-- ---- by indices

-- the candidates of the first layer
pub first_ends : (layers : LayersValue) (ends : List ℕ)
    → AreBelow (λ _. ⊤) (length (slice_index_or layers.candidates 0 [])) ends
    → AreEnds layers 0 ends
first_ends layers ends all last =
    (λ there. ((all last).0 there).0, λ inside. (all last).1 (inside, tt))

-- a candidate of the next layer that is joined to one of these
abbrev pub IsJoinedToOne : LayersValue → ℕ → List ℕ → ℕ → Type 0
IsJoinedToOne layers layer firsts second = Any (λ first. IsJoined layers layer first second) firsts

-- all those that are joined to the ends of a layer
pub next_ends : (layers : LayersValue) (layer : ℕ) (ends next : List ℕ) → AreEnds layers layer ends
    → AreBelow (IsJoinedToOne layers layer ends)
    (length (slice_index_or layers.candidates (layer + 1) [])) next
    → AreEnds layers (layer + 1) next
next_ends layers layer ends next all are =
    subst (λ (n : ℕ). AreEnds layers n next) {x = suc layer} {y = layer + 1} (omega arith) (λ last.
    let one : layer + 1 ≡ suc layer = omega arith in
    let joined = subst (λ (n : ℕ). AreBelow (IsJoinedToOne layers layer ends)
    (length (slice_index_or layers.candidates n [])) next) one are in (
      λ there. let found = (joined last).0 there in
          let before = found.1 in
          (found.0, (before.1, (all before.1).0 (before.0, before.2, before.3), before.4)),
      λ end. let there : Contains ends end.1.0 = (all end.1.0).1 end.1.1 in
          (joined last).1 (end.0, (there.0, end.1.0, there.1, there.2, end.1.2)),
    ))

-- ---- by places

module _ {road : RoadMap} {layers : LayersValue} (are : AreLayersOn road layers) where
  -- a candidate at which a tuple ends by the layers, by its place
  pub end_of : (layer last : ℕ) → IsEnd layers layer last
      → (candidate : Candidate) × IsCandidateOf layers.candidates layer last candidate
      × EndsAt road layers.tolerances layers.reference layer candidate.place
  end_of zero last end =
      let found = some_at (slice_index_or layers.candidates 0 []) last end in
      (found.0, found.1, place_in_layer are 0 last found.0 found.1)
  end_of (suc layer) last (inside, (before, ends, joined)) =
      let found = some_at (slice_index_or layers.candidates (suc layer) []) last inside in
      let to : Candidate = found.0 in
      let from = end_of layer before ends in
      let length = some_of (length_at layers layer before last) joined in
      let to_is : IsCandidateOf layers.candidates (layer + 1) last to = rw add-one found.1 in (
        to,
        found.1,
        (
          place_in_layer are (suc layer) last to found.1,
          (
            from.0.place,
            from.2,
            admits are layer before last from.0 to from.1 to_is length.0 length.1,
          ),
        ),
      )

  -- and by its place, by the layers
  pub is_end : (layer last : ℕ) (candidate : Candidate)
      → IsCandidateOf layers.candidates layer last candidate
      → EndsAt road layers.tolerances layers.reference layer candidate.place
      → IsEnd layers layer last
  is_end zero last candidate at ends =
      slice_get_within (slice_index_or layers.candidates 0 []) last candidate at
  is_end (suc layer) last candidate at (is, (place, ends, it)) =
      let found = candidate_in_layer are (ends_at_candidate _ _ _ layer place ends) in
      let from : Candidate = found.1 in
      let from_ends : EndsAt road layers.tolerances layers.reference layer from.place =
      rw found.3 ends in
      let it_admits : AdmitsPlaces road layers.tolerances layers.reference layer from.place
      candidate.place = rw found.3 it in
      let to_is : IsCandidateOf layers.candidates (layer + 1) last candidate = rw add-one at in
      let length = length_of are layer found.0 last from candidate found.2 to_is it_admits in (
        slice_get_within (slice_index_or layers.candidates (suc layer) []) last candidate at,
        (
          found.0,
          is_end layer found.0 from found.2 from_ends,
          is_some_from (length_at layers layer found.0 last) length.0 length.1,
        ),
      )

  -- ---- tuples

  -- where one ends at a candidate of a layer there is one of the points up to it
  pub has_tuple : (layer : ℕ) (ends : List ℕ) → AreEnds layers layer ends → 0 < length ends
      → HasTuple road layers.tolerances layers.reference (suc layer)
  has_tuple layer [] all some = absurd (omega (arith, some))
  has_tuple layer (last ∷ others) all some =
      let found = end_of layer last ((all last).0 (0, omega arith, refl)) in
      tuple_to _ _ _ layer found.0.place found.2

  -- and else there is none
  pub no_tuple : (layer : ℕ) (ends : List ℕ) → AreEnds layers layer ends → length ends ≡ 0
      → HasTuple road layers.tolerances layers.reference (suc layer) → ⊥
  no_tuple layer ends all none tuple =
      let last = last_of _ _ _ layer tuple in
      let found = candidate_in_layer are (ends_at_candidate _ _ _ layer last.0 last.1) in
      let there : Contains ends found.0 =
      (all found.0).1 (is_end layer found.0 found.1 found.2 (rw found.3 last.1)) in
      omega (arith, there.1, none)

  -- the points up to a layer are the first without a tuple, where there is one of those before it
  first_without : (layer : ℕ) (ends : List ℕ) → layer < length (points_of layers.reference)
      → HasTuple road layers.tolerances layers.reference layer → AreEnds layers layer ends
      → length ends ≡ 0 → IsFirst (HasNoTuple road layers.tolerances layers.reference) (layer + 1)
  first_without layer ends inside has all none = record {
    holds = (
      omega (arith, inside),
      λ tuple. no_tuple layer ends all none (fewer (suc layer) (omega arith) tuple),
    );
    before = λ lesser less no. no.1 (fewer lesser (omega (arith, less)) has);
  }

  -- the first one
  pub without_at_first : (ends : List ℕ) → AreEnds layers 0 ends → length ends ≡ 0
      → IsFirst (HasNoTuple road layers.tolerances layers.reference) 1
  without_at_first ends all none =
      first_without 0 ends (omega (arith, at_least_two layers.reference are.reference))
      record { places = []; count_is = refl; admitted = tt } all none

  -- a later one
  pub without_later : (layer : ℕ) (before ends : List ℕ) → 1 ≤ layer
      → layer < length (points_of layers.reference)
      → AreEnds layers (layer - 1) before → 0 < length before → AreEnds layers (layer - 1 + 1) ends
      → length ends ≡ 0 → IsFirst (HasNoTuple road layers.tolerances layers.reference) (layer + 1)
  without_later layer before ends later inside earlier some all none =
      first_without layer ends inside
      (subst (HasTuple road layers.tolerances layers.reference) {x = suc (layer - 1)} {y = layer}
      (omega (arith, later)) (has_tuple (layer - 1) before earlier some))
      (subst (λ (n : ℕ). AreEnds layers n ends) {x = layer - 1 + 1} {y = layer}
      (omega (arith, later)) all) none

  -- there is one of all points, where one ends in the last layer
  pub with_all : (layer : ℕ) (ends : List ℕ) → 1 ≤ layer
      → layer ≡ length (points_of layers.reference) → AreEnds layers (layer - 1) ends
      → 0 < length ends → HasMatching road layers.tolerances layers.reference
  with_all layer ends later all last some =
      subst (HasTuple road layers.tolerances layers.reference) {x = suc (layer - 1)} {y =
      length (points_of layers.reference)} (omega (arith, later, all))
      (has_tuple (layer - 1) ends last some)
