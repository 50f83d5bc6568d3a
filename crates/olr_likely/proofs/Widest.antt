-- Looking by the widest limits: no gap is greater, so each place that opens is listed.
use Rattle.olr_keys.specs.Matching.{IsKey}
use Rattle.std.proofs.Common.{◌≡◌, ◌<◌, ◌≤◌, Bool, true, List, [], ◌∷◌, ◌++◌, length, length-append, filter, get_or, All, refl, ap, ◌∙◌, inl, inr, arith, ℕ, subst}
use Rattle.std.proofs.lemmas.Bool.{cases_Bool, le-leb}
use Rattle.std.proofs.lemmas.List.{get_or-map, get_or_append_left, length-map}
use Rattle.std.proofs.lemmas.List.Elements.{All-head, All-nil, All-push, All-tail, All-weaker}
use Rattle.olr_keys.specs.Answers.{AreAnswers}
use Rattle.olr_keys.specs.Key.{KeyValue}
use Rattle.olr_keys.specs.Laws.{KeysAreInRange}
use Rattle.olr_keys.specs.Table.{IsTable, Penalties}
use Rattle.olr_report.specs.Entries.{Entry, keys_of}
use Rattle.olr_places.specs.Looking.{belongs, is_within, listed_of, openers_of, openers_on}
use Rattle.olr_places.specs.declared.limits.PlaceLimits.{PlaceLimits}

-- what passes is kept whole
all_kept : {X : Type 0} (p : X → Bool) (xs : List X) → All (λ x. p x ≡ true) xs
    → filter p xs ≡ xs
all_kept p [] all = refl
all_kept p (x ∷ xs) all =
    let first : p x ≡ true = All-head (λ y. p y ≡ true) x xs all in
    let rest = all_kept p xs (All-tail (λ y. p y ≡ true) x xs all) in
    rw (first, rest) refl

module _ (limits : PlaceLimits) where
  -- what holds of all matchings holds of those that open a place
  pub all_open : (P : Entry → Type 0) (openers entries : List Entry) → All P openers
      → All P entries → All P (openers_on limits openers entries)
  all_open P openers [] so_far all = so_far
  all_open P openers (one ∷ left) so_far all = elim (cases_Bool (belongs limits openers one)) [
    | inl old ↦ rw old (all_open P openers left so_far (All-tail P one left all))
    | inr new ↦ rw new (all_open P (openers ++ one ∷ []) left
        (All-push P openers one so_far (All-head P one left all)) (All-tail P one left all))
  ]

  -- no total is greater than the greatest gap
  abbrev pub IsLow : Entry → Type 0
  IsLow one = one.key.total ≤ 14620

  within_gap : limits.within ≡ 14620 → (matchings : List Entry) (one : Entry) → IsLow one
      → is_within limits matchings one ≡ true
  within_gap widest [] one low = le-leb _ _ (omega arith)
  within_gap widest (first ∷ others) one low = le-leb _ _ (omega (arith, low, widest))

  pub all_listed : limits.within ≡ 14620 → (matchings : List Entry) → All IsLow matchings
      → listed_of limits matchings ≡ openers_of limits matchings
  all_listed widest matchings low = all_kept (is_within limits matchings)
      (openers_of limits matchings)
      (All-weaker IsLow (λ one. is_within limits matchings one ≡ true)
      (within_gap widest matchings) (openers_of limits matchings)
      (all_open IsLow [] matchings (All-nil IsLow) low))

-- the matchings that were looked at are those of the first answers
module _ (answers left : List KeyValue) (seen matchings behind : List Entry)
    (keys : answers ≡ keys_of seen ++ left) (looked : seen ≡ matchings ++ behind) where
  pub seen_at : (k : ℕ) (d : Entry) → k < length matchings
      → (get_or seen k d ≡ get_or matchings k d) × (k < length seen)
  seen_at k d inside = (
    rw looked (get_or_append_left matchings behind d k inside),
    omega (arith, ap (λ (l : List Entry). length l) looked, length-append matchings behind),
  )

  pub answer_at : (k : ℕ) (d : Entry) → k < length matchings
      → (get_or answers k d.key ≡ (get_or matchings k d).key) × (k < length answers)
  answer_at k d inside =
      let one = seen_at k d inside in
      let key_at : get_or (keys_of seen) k d.key ≡ (get_or seen k d).key =
      get_or-map (λ (one : Entry). one.key) seen k d d.key one.1 in
      let in_keys : k < length (keys_of seen) =
      omega (arith, one.1, length-map seen (λ (one : Entry). one.key)) in
      let first : get_or answers k d.key ≡ get_or (keys_of seen) k d.key =
      rw keys (get_or_append_left (keys_of seen) left d.key k in_keys) in (
        first ∙ key_at ∙ ap (λ (one : Entry). one.key) one.0,
        omega (
          arith,
          in_keys,
          ap (λ (l : List KeyValue). length l) keys,
          length-append (keys_of seen) left,
        ),
      )

  module _ (penalties : Penalties) (are : AreAnswers penalties answers) where
    -- their keys are those of matchings
    pub keys_are : All (λ (one : Entry). IsKey penalties one.key) matchings
    keys_are k d inside =
        let answer = answer_at k d inside in
        subst (IsKey penalties) answer.0 (are.only k d.key answer.1)

    -- so they are low
    pub keys_low : KeysAreInRange → IsTable penalties
        → All (λ (one : Entry). one.key.total ≤ 14620) matchings
    keys_low in_range table k d inside =
        (in_range penalties _ table (keys_are k d inside)).total_at_most
