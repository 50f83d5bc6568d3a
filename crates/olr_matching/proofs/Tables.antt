-- The penalties of candidates and legs are a table, and with it the layers of a reference.
use Rattle.std.specs.List.Sorted.{IsNonDecreasing}
use Rattle.olr_matching.proofs.Common.{AreLayersOn, Candidate, IsSoundMap, LayersValue, LeadsOn, leg_penalties, leg_penalty, lengths_of, Next, penalties_of, Reference, RoadMap, Tolerances, ◌≡◌, ℕ, ◌+◌, ◌<◌, ◌≤◌, inl, inr, List, [], length, map, get_or, refl, sym, ◌∙◌, ap, arith, AllPairs, IfSome, Option, None, Some, option_map, eq-or-lt_of_le, Vec, get_or-map, length-map, All-map, get_or_from_slice_get, slice_get-get_or, slice_get_within, IsReference, PenaltyAtMost, AreLists, IsListOf, AreLengthsBetween, AreLengthsOfLegs, ArePenaltiesOfLegs}
use Rattle.olr_candidates.specs.Candidates.{IsBefore}
use Rattle.olr_keys.specs.Table.{AreLegs, IsLayer, IsTable, Penalties, penalties_of as vectors_of}
use Rattle.olr_matching.proofs.LegLaws.{count_is}
use Rattle.olr_matching.proofs.LengthRows.{no_candidate}
use Rattle.olr_matching.proofs.Points.{at_least_two, at_most_32, leads_on, leads_within}

-- ---- layers

-- a candidate that isn't behind another one has no greater penalty
no_greater : (a b : Candidate) → IsBefore a b → a.penalty ≤ b.penalty
no_greater a b (inl less) = omega arith
no_greater a b (inr same) = omega arith

-- the penalties of candidates in order don't fall
never_fall : (candidates : List Candidate) → AllPairs IsBefore candidates
    → IsNonDecreasing (penalties_of candidates)
never_fall candidates rise = λ i j d upto inside.
    let count = length-map candidates (λ candidate. candidate.penalty) in
    let at_i = get_or-map (λ candidate. candidate.penalty) candidates i no_candidate d
    (omega arith) in
    let at_j = get_or-map (λ candidate. candidate.penalty) candidates j no_candidate d
    (omega arith) in
    let order : (get_or candidates i no_candidate).penalty
    ≤ (get_or candidates j no_candidate).penalty = elim (eq-or-lt_of_le upto) [
      | inl same ↦ omega (arith, ap (λ k. (get_or candidates k no_candidate).penalty) same)
      | inr less ↦ no_greater (get_or candidates i no_candidate) (get_or candidates j no_candidate)
          (rise i j no_candidate less (omega (arith, count, inside)))
    ] in
    rw (at_i, at_j) order

-- the penalties of the candidates of a point are a layer
layer_of : (tolerances : Tolerances) (reference : Reference) (road : RoadMap) (layer : ℕ)
    (candidates : List Candidate) → IsSoundMap road → PenaltyAtMost
    → IsListOf tolerances reference road.lines layer candidates → IsLayer (penalties_of candidates)
layer_of tolerances reference road layer candidates sound at_most is = record {
  at_most = omega (
    arith,
    length-map candidates (λ (candidate : Candidate). candidate.penalty),
    is.1,
  );
  rise = never_fall candidates is.0.just.rise;
  each = All-map (λ (penalty : ℕ). penalty ≤ 360) (λ (candidate : Candidate). candidate.penalty)
      candidates (at_most _ _ _ _ road candidates sound is.0.just);
}

-- ---- legs

-- a penalty of a leg is at most 100
at_most_100 : (next : Next) (length : Option ℕ)
    → IfSome (option_map (leg_penalty next) length) (λ penalty. penalty ≤ 100)
at_most_100 next None = tt
at_most_100 next (Some length) = omega arith

-- the penalties of the lengths between the candidates of two points are legs
legs_of : (road : RoadMap) (tolerances : Tolerances) (next : Next) (firsts seconds : List Candidate)
    (lengths : List (Option ℕ)) → AreLengthsBetween road tolerances next firsts seconds lengths
    → AreLegs (length firsts) (length seconds) (leg_penalties next lengths)
legs_of road tolerances next firsts seconds lengths are = record {
  pairs = length-map lengths (λ (length : Option ℕ). option_map (leg_penalty next) length)
      ∙ are.pairs;
  each = All-map (λ (leg : Option ℕ). IfSome leg (λ penalty. penalty ≤ 100))
      (λ (length : Option ℕ). option_map (leg_penalty next) length) lengths
      (λ k d inside. at_most_100 next (get_or lengths k d));
}

-- ---- the table

-- the penalties of the candidates of all points and of all legs are a table
pub table_of : (road : RoadMap) (tolerances : Tolerances) (reference : Reference)
    (lists : List (List Candidate)) (lengths legs : List (List (Option ℕ)))
    → IsSoundMap road → PenaltyAtMost → IsReference reference
    → AreLists tolerances reference road.lines lists
    → AreLengthsOfLegs road tolerances reference lists lengths
    → ArePenaltiesOfLegs reference lengths legs
    → IsTable (record { candidates = map penalties_of lists; legs = legs })
table_of road tolerances reference lists lengths legs sound at_most is are_lists are_lengths
    are_legs =
    let count : length (map penalties_of lists) ≡ length lists = length-map lists penalties_of in
    let p : Penalties = record { candidates = map penalties_of lists; legs = legs } in
    record {
      layers_at_least = omega (arith, count, are_lists.all, at_least_two reference is);
      layers_at_most = omega (arith, count, are_lists.all, at_most_32 reference is);
      layers = All-map IsLayer penalties_of lists (λ layer d inside.
          layer_of tolerances reference road layer (get_or lists layer d) sound at_most
          (are_lists.each layer (get_or lists layer d) (slice_get-get_or lists layer d inside)));
      between = omega (arith, count, are_lengths.count, are_legs.count);
      legs = λ layer here here_is.
          let below : layer < length legs = slice_get_within legs layer here here_is in
          let leads = leads_on reference layer is
          (omega (arith, below, are_lists.all, are_lengths.count, are_legs.count)) in
          let next : Next = leads.0 in
          let penalties : here ≡ leg_penalties next (get_or lengths layer []) =
          sym (get_or_from_slice_get legs layer here [] here_is)
          ∙ are_legs.each layer below next leads.1 in
          let between = legs_of road tolerances next (get_or lists layer [])
          (get_or lists (layer + 1) []) (get_or lengths layer [])
          (are_lengths.each layer (omega (arith, below, are_legs.count)) next leads.1) in
          rw (count_is p lists layer refl, count_is p lists (layer + 1) refl, penalties) between;
    }

-- the same of vectors
pub table_of_vectors : (road : RoadMap) (tolerances : Tolerances) (reference : Reference)
    (lists : List (List Candidate)) (lengths : List (List (Option ℕ)))
    (penalties : List (Vec ℕ)) (legs : List (Vec (Option ℕ))) → IsSoundMap road → PenaltyAtMost
    → IsReference reference → AreLists tolerances reference road.lines lists
    → AreLengthsOfLegs road tolerances reference lists lengths
    → map (λ (layer : Vec ℕ). layer.items) penalties ≡ map penalties_of lists
    → ArePenaltiesOfLegs reference lengths (lengths_of legs) → IsTable (vectors_of penalties legs)
table_of_vectors road tolerances reference lists lengths penalties legs sound at_most is are_lists
    are_lengths are_penalties are_legs =
    rw are_penalties (table_of road tolerances reference lists lengths (lengths_of legs) sound
    at_most is are_lists are_lengths are_legs)

-- ---- the layers

-- layers with these parts are those of a reference
pub are_layers : (road : RoadMap) (layers : LayersValue) (reference : Reference)
    → layers.reference ≡ reference → IsReference reference
    → AreLists layers.tolerances reference road.lines layers.candidates
    → AreLengthsOfLegs road layers.tolerances reference layers.candidates layers.lengths
    → IsTable layers.penalties → layers.penalties.candidates ≡ map penalties_of layers.candidates
    → ArePenaltiesOfLegs reference layers.lengths layers.penalties.legs → AreLayersOn road layers
are_layers road layers reference same is are_lists are_lengths table are_penalties are_legs =
    let leads : (layer : ℕ) (next : Next) → LeadsOn layers.reference layer next
    → LeadsOn reference layer next = λ layer next leads. rw (← same) leads in
    let within : (layer : ℕ) (next : Next) → LeadsOn layers.reference layer next
    → layer < length layers.lengths =
    λ layer next it. omega (arith, leads_within reference layer next is (leads layer next it)) in
    record {
      reference = rw same is;
      lists = rw same are_lists;
      table = table;
      penalties = are_penalties;
      between = are_lengths.count;
      lengths = λ layer next first second from to it first_is second_is.
          (are_lengths.each layer (within _ next it) next (leads layer next it)).each first second
          from to first_is second_is;
      legs = λ layer next it. are_legs.each layer (omega (arith, within layer next it)) next
          (leads layer next it);
    }
