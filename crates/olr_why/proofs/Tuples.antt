-- Tuples of candidates of neighbouring points, of which each leg admits the two that it joins:
-- their last candidates, their parts, and shorter ones.
use Rattle.olr_why.proofs.Common.{Place, Reference, RoadMap, Tolerances, ◌≡◌, ℕ, zero, suc, add-one, add-zero, ◌+◌, ◌<◌, ◌≤◌, List, [], ◌∷◌, length, take, subst, arith, length-take-le, AdmitsPlaces, AreAdmitted, AreAdmittedBehind, HasTuple, IsCandidatePlace}

module _ (road : RoadMap) (tolerances : Tolerances) (reference : Reference) where
  -- ---- the last candidate of a tuple

  -- a tuple of candidates of the points up to this one ends at this place
  abbrev pub EndsAt : ℕ → Place → Type 0
  EndsAt zero place = IsCandidatePlace road tolerances reference 0 place
  EndsAt (suc index) place = IsCandidatePlace road tolerances reference (suc index) place
      × ((from : Place) × EndsAt index from
      × AdmitsPlaces road tolerances reference index from place)

  pub ends_at_candidate : (index : ℕ) (place : Place) → EndsAt index place
      → IsCandidatePlace road tolerances reference index place
  ends_at_candidate zero place ends = ends
  ends_at_candidate (suc index) place ends = ends.0

  -- candidates behind the last one of a tuple make a longer one
  last_behind : (index : ℕ) (from : Place) (rest : List Place) → EndsAt index from
      → AreAdmittedBehind road tolerances reference index from rest
      → (to : Place) × EndsAt (index + length rest) to
  last_behind index from [] ends behind = (from, rw add-zero ends)
  last_behind index from (to ∷ rest) ends (is, admits, behind) =
      let more = last_behind (suc index) to rest (rw add-one at is, (from, ends, admits))
      (rw add-one at behind) in (
        more.0,
        subst (λ (n : ℕ). EndsAt n more.0) {x = suc index + length rest} {y =
            index + length (to ∷ rest)} (omega arith) more.1,
      )

  last_in : (index : ℕ) (places : List Place) → length places ≡ suc index
      → AreAdmitted road tolerances reference places → (place : Place) × EndsAt index place
  last_in index [] count admitted = absurd (omega (arith, count))
  last_in index (place ∷ rest) count admitted =
      let found = last_behind 0 place rest admitted.0 admitted.1 in (
        found.0,
        subst (λ (n : ℕ). EndsAt n found.0) {x = 0 + length rest} {y = index}
            (omega (arith, count)) found.1,
      )

  -- a tuple has a last candidate
  pub last_of : (index : ℕ) → HasTuple road tolerances reference (suc index) → (place : Place)
      × EndsAt index place
  last_of index tuple = last_in index tuple.places tuple.count_is tuple.admitted

  -- the tuple before these candidates, and they
  joined : (index : ℕ) (place : Place) (rest : List Place) → EndsAt index place
      → AreAdmittedBehind road tolerances reference index place rest
      → (places : List Place) × (length places ≡ suc index + length rest)
      × AreAdmitted road tolerances reference places
  joined zero place rest ends behind = (place ∷ rest, omega arith, (ends, behind))
  joined (suc index) place rest (is, (from, ends, admits)) behind =
      let found = joined index from (place ∷ rest) ends
      (rw add-one is, admits, rw add-one behind) in
      (found.0, omega (arith, found.1), found.2)

  -- where a tuple ends there is one
  pub tuple_to : (index : ℕ) (place : Place) → EndsAt index place
      → HasTuple road tolerances reference (suc index)
  tuple_to index place ends =
      let found = joined index place [] ends tt in
      record { places = found.0; count_is = omega (arith, found.1); admitted = found.2 }

  -- ---- parts of a tuple

  front_behind : (index count : ℕ) (from : Place) (rest : List Place)
      → AreAdmittedBehind road tolerances reference index from rest
      → AreAdmittedBehind road tolerances reference index from (take count rest)
  front_behind index zero from rest behind = tt
  front_behind index (suc count) from [] behind = tt
  front_behind index (suc count) from (to ∷ rest) behind =
      (behind.0, behind.1, front_behind (index + 1) count to rest behind.2)

  front : (count : ℕ) (places : List Place) → AreAdmitted road tolerances reference places
      → AreAdmitted road tolerances reference (take count places)
  front zero places admitted = tt
  front (suc count) [] admitted = tt
  front (suc count) (place ∷ rest) admitted =
      (admitted.0, front_behind 0 count place rest admitted.1)

module _ {road : RoadMap} {tolerances : Tolerances} {reference : Reference} where
  -- there is one of fewer candidates
  pub fewer : {count : ℕ} (lesser : ℕ) → lesser ≤ count → HasTuple road tolerances reference count
      → HasTuple road tolerances reference lesser
  fewer lesser at_most tuple = record {
    places = take lesser tuple.places;
    count_is = length-take-le lesser tuple.places (omega (arith, at_most, tuple.count_is));
    admitted = front road tolerances reference lesser tuple.places tuple.admitted;
  }

  -- it has a candidate of each point
  pub candidate_of : {count : ℕ} (index : ℕ) → index < count
      → HasTuple road tolerances reference count
      → (place : Place) × IsCandidatePlace road tolerances reference index place
  candidate_of index before tuple =
      let found = last_of _ _ _ index (fewer (suc index) (omega (arith, before)) tuple) in
      (found.0, ends_at_candidate _ _ _ index found.0 found.1)

  -- and a pair that each leg admits
  pub pair_of : {count : ℕ} (index : ℕ) → index + 1 < count
      → HasTuple road tolerances reference count
      → (from : Place) × (to : Place) × IsCandidatePlace road tolerances reference index from
      × IsCandidatePlace road tolerances reference (index + 1) to
      × AdmitsPlaces road tolerances reference index from to
  pair_of index before tuple =
      let found = last_of _ _ _ (suc index)
      (fewer (suc (suc index)) (omega (arith, before)) tuple) in
      let from : Place = found.1.1.0 in (
        from,
        found.0,
        ends_at_candidate _ _ _ index from found.1.1.1,
        rw add-one found.1.0,
        found.1.1.2,
      )
