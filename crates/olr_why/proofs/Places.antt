-- The places of the candidates of a point, and which pairs of them a leg admits, by the layers of
-- their reference.
use Rattle.olr_why.proofs.Common.{AdmitsPlaces, all_at, Candidate, IsCandidatePlace, leads_on, Next, Penalties, Place, points_of, Reference, RoadMap, Tolerances, ◌≡◌, ℕ, ◌+◌, ◌<◌, List, [], length, refl, sym, ◌∙◌, ap, subst, arith, Option, Some, None, ◌==◌, Contains, slice_get, slice_index_or, same_Some, slice_get-get_or, slice_get_within, IsCandidateAt, IsOneOf, AreCandidatesOf, AreLayersOn, IsCandidateOf, LayersValue, length_at, IsAdmitted, IsAdmittedLength, layers_count, candidates_at, Coordinates, coordinates_of}

-- ---- a point

module _ {road : RoadMap} {tolerances : Tolerances} {reference : Reference} {index : ℕ} where
  -- a point that has a candidate is one of the reference
  pub is_point : {place : Place} → IsCandidatePlace road tolerances reference index place
      → index < length (points_of reference)
  is_point is = slice_get_within (points_of reference) index is.is.point is.is.point_is

  -- a candidate of a point lies at a place of the point
  pub place_of : {candidates : List Candidate} (k : ℕ) {candidate : Candidate}
      → AreCandidatesOf tolerances reference road.lines index candidates
      → slice_get candidates k ≡ Some candidate
      → IsCandidatePlace road tolerances reference index candidate.place
  place_of {candidates} k {candidate} are at =
      let last = index + 1 == length (points_of reference) in
      let origin : Coordinates = coordinates_of are.first.at in
      let one : IsOneOf tolerances origin are.point last road.lines candidate =
      all_at (IsOneOf tolerances origin are.point last road.lines) candidates k candidate
      are.just.only at in
      let just : IsCandidateAt tolerances origin are.point last road.lines candidate.place.line
      candidate =
      subst (λ (rank : ℕ). IsCandidateAt tolerances origin are.point last road.lines rank candidate)
      (sym one.1.2.rates.line_is) one.1 in record {
        candidate = candidate;
        is = record {
          first = are.first;
          point = are.point;
          first_is = are.first_is;
          point_is = are.point_is;
          just = just;
        };
        place_is = refl;
      }

  -- and a place of a point is that of a candidate
  pub candidate_at : {candidates : List Candidate} {place : Place}
      → AreCandidatesOf tolerances reference road.lines index candidates
      → IsCandidatePlace road tolerances reference index place
      → (k : ℕ) × (candidate : Candidate) × (slice_get candidates k ≡ Some candidate)
      × (candidate.place ≡ place)
  candidate_at {candidates} {place} are is =
      let last = index + 1 == length (points_of reference) in
      let first : is.is.first ≡ are.first =
      same_Some is.is.first are.first (sym is.is.first_is ∙ are.first_is) in
      let point : is.is.point ≡ are.point =
      same_Some is.is.point are.point (sym is.is.point_is ∙ are.point_is) in
      let just : IsCandidateAt tolerances (coordinates_of are.first.at) are.point last road.lines
      place.line is.candidate = rw (← first, ← point) is.is.just in
      let there : Contains candidates is.candidate =
      are.just.each is.candidate (place.line, just) in (
        there.0,
        is.candidate,
        slice_get-get_or candidates there.0 is.candidate there.1 ∙ ap Some there.2,
        is.place_is,
      )

-- ---- layers

module _ {road : RoadMap} {layers : LayersValue} (are : AreLayersOn road layers) where
  -- the candidates of a point that the layers have
  pub list_of_point : (index : ℕ) → index < length (points_of layers.reference)
      → AreCandidatesOf layers.tolerances layers.reference road.lines index
      (slice_index_or layers.candidates index [])
  list_of_point index inside = (are.lists.each index (slice_index_or layers.candidates index [])
      (slice_get-get_or layers.candidates index [] (omega (arith, inside, are.lists.all)))).0

  -- as many layers as the table has are the points
  pub points_count : {penalties : Penalties} {count : ℕ} → penalties ≡ layers.penalties
      → count ≡ length penalties.candidates → count ≡ length (points_of layers.reference)
  points_count same is =
      is ∙ ap (λ (p : Penalties). length p.candidates) same ∙ layers_count are ∙ are.lists.all

  -- a candidate of a layer lies at a place of the layer's point
  pub place_in_layer : (index k : ℕ) (candidate : Candidate)
      → IsCandidateOf layers.candidates index k candidate
      → IsCandidatePlace road layers.tolerances layers.reference index candidate.place
  place_in_layer index k candidate is =
      place_of k (candidates_at road layers index k candidate are is) is

  -- and a place of a point is that of a candidate of the point's layer
  pub candidate_in_layer : {index : ℕ} {place : Place}
      → IsCandidatePlace road layers.tolerances layers.reference index place
      → (k : ℕ) × (candidate : Candidate) × IsCandidateOf layers.candidates index k candidate
      × (candidate.place ≡ place)
  candidate_in_layer is = candidate_at (list_of_point _ (is_point is)) is

  -- ---- a leg

  module _ (index first second : ℕ) (from to : Candidate)
      (from_is : IsCandidateOf layers.candidates index first from)
      (to_is : IsCandidateOf layers.candidates (index + 1) second to) where
    -- a leg admits two candidates whose length is known
    pub admits : (known : ℕ) → length_at layers index first second ≡ Some known
        → AdmitsPlaces road layers.tolerances layers.reference index from.place to.place
    admits known is =
        let inside : index + 1 < length (points_of layers.reference) =
        is_point (place_in_layer (index + 1) second to to_is) in
        let leads = leads_on layers.reference index are.reference inside in record {
          next = leads.0;
          leads_on = leads.1;
          length = known;
          admitted = subst (IsAdmittedLength road layers.tolerances leads.0 from.place to.place) is
              (are.lengths index leads.0 first second from to leads.1 from_is to_is);
        }

    -- a length that is known for two places that a leg admits
    known_length : (next : Next) (least : ℕ) (found : Option ℕ)
        → IsAdmitted road layers.tolerances next from.place to.place least
        → IsAdmittedLength road layers.tolerances next from.place to.place found → (known : ℕ)
        × (found ≡ Some known)
    known_length next least None admitted none = absurd (none least admitted)
    known_length next least (Some found) admitted is = (found, refl)

    -- and the length of two candidates that a leg admits is known
    pub length_of : AdmitsPlaces road layers.tolerances layers.reference index from.place to.place
        → (known : ℕ) × (length_at layers index first second ≡ Some known)
    length_of it = known_length it.next it.length (length_at layers index first second) it.admitted
        (are.lengths index it.next first second from to it.leads_on from_is to_is)
