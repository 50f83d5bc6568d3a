-- A tuple of candidates of all points and a matching by ranks are the same, so there is one exactly
-- where the table of the layers has a key.
use Rattle.olr_why.proofs.Common.{AdmitsPlaces, AreAdmitted, AreAdmittedBehind, AreLayersOn, Candidate, HasMatching, IsCandidatePlace, KeyValue, LayersValue, MatchingHasKey, Place, points_of, RoadMap, ◌≡◌, ℕ, ◌+◌, ◌-◌, List, [], ◌∷◌, length, refl, subst, arith, Some, slice_get, slice_index_or, leg_penalty, at_least_two}
use Rattle.olr_matching.specs.Admissible.{Admits, HasCandidate, IsMatching, IsRestBehind, KeysAreOfMatchings}
use Rattle.olr_why.proofs.Places.{candidate_in_layer, is_point, list_of_point, place_of}

module _ {road : RoadMap} {layers : LayersValue} (are : AreLayersOn road layers) where
  -- ---- from ranks to places

  place_of_rank : (index rank : ℕ) (candidate : Candidate)
      → HasCandidate road layers.tolerances layers.reference index rank candidate
      → IsCandidatePlace road layers.tolerances layers.reference index candidate.place
  place_of_rank index rank candidate has = place_of (rank - 1) has.all has.is

  admits_places : (index : ℕ) (from to : Candidate) (penalty : ℕ)
      → Admits road layers.tolerances layers.reference index from to penalty
      → AdmitsPlaces road layers.tolerances layers.reference index from.place to.place
  admits_places index from to penalty it =
      record { next = it.next; leads_on = it.leads_on; length = it.length; admitted = it.admitted }

  places_behind : (index : ℕ) (from : Candidate) (ranks : List ℕ) (total : ℕ)
      → IsRestBehind road layers.tolerances layers.reference index from ranks total
      → (places : List Place) × (index + 1 + length places ≡ length (points_of layers.reference))
      × AreAdmittedBehind road layers.tolerances layers.reference index from.place places
  places_behind index from [] total rest = ([], omega (arith, rest.0), tt)
  places_behind index from (rank ∷ ranks) total (to, leg, others, has, admitted, behind, sum) =
      let more = places_behind (index + 1) to ranks others behind in (
        to.place ∷ more.0,
        omega (arith, more.1),
        (place_of_rank (index + 1) rank to has, admits_places index from to leg admitted, more.2),
      )

  pub has_matching : (ranks : List ℕ) (total : ℕ)
      → IsMatching road layers.tolerances layers.reference ranks total
      → HasMatching road layers.tolerances layers.reference
  has_matching [] total matching = absurd matching
  has_matching (rank ∷ ranks) total (first, rest, has, behind, sum) =
      let more = places_behind 0 first ranks rest behind in record {
        places = first.place ∷ more.0;
        count_is = omega (arith, more.1);
        admitted = (place_of_rank 0 rank first has, more.2);
      }

  -- ---- from places to ranks

  rank_of : (index : ℕ) (place : Place)
      → IsCandidatePlace road layers.tolerances layers.reference index place
      → (rank : ℕ) × (candidate : Candidate)
      × HasCandidate road layers.tolerances layers.reference index rank candidate
      × (candidate.place ≡ place)
  rank_of index place is =
      let found = candidate_in_layer are is in (
        found.0 + 1,
        found.1,
        record {
          candidates = slice_index_or layers.candidates index [];
          all = list_of_point are index (is_point is);
          at_least = omega arith;
          is = subst (λ (k : ℕ). slice_get (slice_index_or layers.candidates index []) k
              ≡ Some found.1) {x = found.0} {y = found.0 + 1 - 1} (omega arith) found.2;
        },
        found.3,
      )

  admits_candidates : (index : ℕ) (from to : Candidate)
      → (it : AdmitsPlaces road layers.tolerances layers.reference index from.place to.place)
      → Admits road layers.tolerances layers.reference index from to (leg_penalty it.next it.length)
  admits_candidates index from to it = record {
    next = it.next;
    leads_on = it.leads_on;
    length = it.length;
    admitted = it.admitted;
    penalty_is = refl;
  }

  ranks_behind : (index : ℕ) (from : Candidate) (places : List Place)
      → AreAdmittedBehind road layers.tolerances layers.reference index from.place places
      → index + 1 + length places ≡ length (points_of layers.reference)
      → (ranks : List ℕ) × (total : ℕ)
      × IsRestBehind road layers.tolerances layers.reference index from ranks total
  ranks_behind index from [] behind count = ([], 0, (omega (arith, count), refl))
  ranks_behind index from (place ∷ places) (is, admits, behind) count =
      let found = rank_of (index + 1) place is in
      let to : Candidate = found.1 in
      let leg : AdmitsPlaces road layers.tolerances layers.reference index from.place to.place =
      rw found.3 admits in
      let more = ranks_behind (index + 1) to places (rw found.3 behind) (omega (arith, count)) in (
        found.0 ∷ more.0,
        leg_penalty leg.next leg.length + to.penalty + more.1,
        (
          to,
          leg_penalty leg.next leg.length,
          more.1,
          found.2,
          admits_candidates index from to leg,
          more.2,
          refl,
        ),
      )

  ranks_of : (places : List Place) → length places ≡ length (points_of layers.reference)
      → AreAdmitted road layers.tolerances layers.reference places → (ranks : List ℕ) × (total : ℕ)
      × IsMatching road layers.tolerances layers.reference ranks total
  ranks_of [] count admitted = absurd
      (omega (arith, count, at_least_two layers.reference are.reference))
  ranks_of (place ∷ places) count admitted =
      let found = rank_of 0 place admitted.0 in
      let first : Candidate = found.1 in
      let more = ranks_behind 0 first places (rw found.3 admitted.1) (omega (arith, count)) in
      (found.0 ∷ more.0, first.penalty + more.1, (first, more.1, found.2, more.2, refl))

  pub matching_of : HasMatching road layers.tolerances layers.reference
      → (ranks : List ℕ) × (total : ℕ)
      × IsMatching road layers.tolerances layers.reference ranks total
  matching_of tuple = ranks_of tuple.places tuple.count_is tuple.admitted

-- ---- keys

pub matching_has_key : KeysAreOfMatchings → MatchingHasKey
matching_has_key law road layers are = (
  λ tuple.
      let found = matching_of are tuple in
      let key : KeyValue = record { total = found.1; ranks = found.0 } in
      (key, (law road layers key are).1 found.2),
  λ (key, is). has_matching are key.ranks key.total ((law road layers key are).0 is),
)
