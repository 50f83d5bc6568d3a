-- A reference has one verdict; it is that there is a matching exactly where the table of its layers
-- has answers.
use Rattle.olr_why.proofs.Common.{AreAnswers, AreLayersOn, HasMatching, IsUncrowded, KeyValue, LayersValue, NoListsAndTooMany, Penalties, points_of, Reference, RoadMap, Tolerances, Verdict, ◌≡◌, ◌≢◌, ℕ, List, [], ◌∷◌, length, refl, inl, inr, ap, arith, cases_lt, slice_get_within, IsKey, MatchHasAnswers, MatchingHasKey, HasNoTuple, HaveCandidates, HavePairs, IsFirst, IsVerdict, Chain, Crowded, Leg, Match, Point}
use Rattle.olr_why.proofs.Tuples.{candidate_of, fewer, pair_of}

-- there is one least number
one_first : (P : ℕ → Type 0) (a b : ℕ) → IsFirst P a → IsFirst P b → a ≡ b
one_first P a b one other = elim (cases_lt a b) [
  | inl before ↦ absurd (other.before a before one.holds)
  | inr not_before ↦ elim (cases_lt b a) [
    | inl behind ↦ absurd (one.before b behind other.holds)
    | inr not_behind ↦ omega (arith, not_before, not_behind)
  ]
]

module _ (road : RoadMap) (tolerances : Tolerances) (reference : Reference) where
  -- ---- what one verdict excludes

  crowded : (number : ℕ) → IsVerdict road tolerances reference (Crowded number)
      → IsUncrowded road tolerances reference → ⊥
  crowded number (index, is, first) uncrowded =
      uncrowded index (slice_get_within (points_of reference) index first.holds.point
      first.holds.point_is) first.holds

  have_candidates : HasMatching road tolerances reference → HaveCandidates road tolerances reference
  have_candidates tuple index (inside, none) =
      let found = candidate_of index inside tuple in none found.0 found.1

  have_pairs : HasMatching road tolerances reference → HavePairs road tolerances reference
  have_pairs tuple index (inside, none) =
      let found = pair_of index inside tuple in none found.0 found.1 found.2 found.3 found.4

  have_tuples : HasMatching road tolerances reference → (count : ℕ)
      → HasNoTuple road tolerances reference count → ⊥
  have_tuples tuple count (at_most, none) = none (fewer count at_most tuple)

  -- ---- one verdict

  pub one_verdict : (a b : Verdict) → IsVerdict road tolerances reference a
      → IsVerdict road tolerances reference b → a ≡ b
  one_verdict (Crowded a) (Crowded b) one other =
      ap Crowded (omega (arith, one.1, other.1, one_first _ one.0 other.0 one.2 other.2))
  one_verdict (Crowded a) _ one other = absurd (crowded a one other.0)
  one_verdict _ (Crowded b) one other = absurd (crowded b other one.0)
  one_verdict (Point a) (Point b) one other =
      ap Point (omega (arith, one.1.1, other.1.1, one_first _ one.1.0 other.1.0 one.1.2 other.1.2))
  one_verdict (Point a) Match one other = absurd (have_candidates other.1 one.1.0 one.1.2.holds)
  one_verdict (Point a) _ one other = absurd (other.1 one.1.0 one.1.2.holds)
  one_verdict Match (Point b) one other = absurd (have_candidates one.1 other.1.0 other.1.2.holds)
  one_verdict _ (Point b) one other = absurd (one.1 other.1.0 other.1.2.holds)
  one_verdict (Leg a) (Leg b) one other =
      ap Leg (omega (arith, one.2.1, other.2.1, one_first _ one.2.0 other.2.0 one.2.2 other.2.2))
  one_verdict (Leg a) (Chain b) one other = absurd (other.2 one.2.0 one.2.2.holds)
  one_verdict (Leg a) Match one other = absurd (have_pairs other.1 one.2.0 one.2.2.holds)
  one_verdict (Chain a) (Leg b) one other = absurd (one.2 other.2.0 other.2.2.holds)
  one_verdict (Chain a) (Chain b) one other = ap Chain (one_first _ a b one.3 other.3)
  one_verdict (Chain a) Match one other = absurd (have_tuples other.1 a one.3.holds)
  one_verdict Match (Leg b) one other = absurd (have_pairs one.1 other.2.0 other.2.2.holds)
  one_verdict Match (Chain b) one other = absurd (have_tuples one.1 b other.3.holds)
  one_verdict Match Match one other = refl

-- ---- answers

-- answers that aren't empty have a key
some_key : (penalties : Penalties) (answers : List KeyValue) → AreAnswers penalties answers
    → answers ≢ [] → (key : KeyValue) × IsKey penalties key
some_key penalties [] all some = absurd (some refl)
some_key penalties (key ∷ keys) all some = (key, all.only 0 key (omega arith))

-- and those of a key aren't empty
not_empty : (penalties : Penalties) (answers : List KeyValue) (key : KeyValue)
    → AreAnswers penalties answers → IsKey penalties key → answers ≢ []
not_empty penalties answers key all is none =
    let there = all.each key is in omega (arith, there.1, ap (λ (l : List KeyValue). length l) none)

-- no point of layers has too many candidates
pub uncrowded : {road : RoadMap} {layers : LayersValue} → NoListsAndTooMany
    → AreLayersOn road layers → IsUncrowded road layers.tolerances layers.reference
uncrowded not_both are index inside many = not_both _ _ _ _ index are.lists many

pub match_has_answers : MatchingHasKey → NoListsAndTooMany → MatchHasAnswers
match_has_answers has_key not_both road layers answers are all = (
  λ verdict. let key = (has_key road layers are).0 verdict.1 in
      not_empty layers.penalties answers key.0 all key.1,
  λ some. (
    uncrowded not_both are,
    (has_key road layers are).1 (some_key layers.penalties answers all some),
  ),
)
