-- A set of the numbers of a list before a place, which differ.
use Rattle.olr_index.proofs.Common.{◌≡◌, ◌≢◌, ℕ, ◌+◌, ◌<◌, ◌≤◌, true, false, List, [], ◌∷◌, ◌++◌, length, take, get_or, eqb, sym, ap, ◌∙◌, arith, list_any, nat_cmp, false≢true, nat_eq_equiv, take_more, take_all, Contains-get_or, list_any-append, AllDiffer, IsFirstRepeat}
use Rattle.std.specs.BTreeSet.{BTreeSet, contains, IsEmpty, Updates}
use Rattle.std.proofs.lemmas.Grind.{common_steps}
use Rattle.std.proofs.lemmas.List.Quantifiers.{all_pairs_push}
use Rattle.std.proofs.lemmas.Map.Views.{Contains-from_any, list_any-from_Contains, exact_unsigned_eq}

pub record IsKnown (ids : List ℕ) (place : ℕ) (known : BTreeSet ℕ) : Type 0 where
  pub differ : AllDiffer (take place ids)
  pub same : (id : ℕ) → contains nat_cmp known id ≡ list_any (eqb id) (take place ids)

pub nothing_known : {ids : List ℕ} {known : BTreeSet ℕ} → IsEmpty known → IsKnown ids 0 known
nothing_known empty = record {
  differ = λ i j d below inside. absurd (omega arith);
  same = λ id. ap (list_any _) empty;
}

-- the id at the place, which the set lacks, comes in
pub one_more_known : (ids : List ℕ) (place : ℕ) {known : BTreeSet ℕ} (more : BTreeSet ℕ)
    → IsKnown ids place known → place < length ids
    → contains nat_cmp known (get_or ids place 0) ≡ false
    → Updates nat_cmp known more (get_or ids place 0) true → IsKnown ids (place + 1) more
one_more_known ids place more is inside new updates = record {
  differ = rw longer (all_pairs_push (λ (a b : ℕ). a ≢ b) (take place ids) (get_or ids place 0)
      is.differ apart);
  same = λ id. step id ∙ sym (cc longer);
}
  where
    longer : take (place + 1) ids ≡ take place ids ++ get_or ids place 0 ∷ []
    longer = take_more ids place 0 inside

    step : (id : ℕ) → contains nat_cmp more id
        ≡ list_any (eqb id) (take place ids ++ get_or ids place 0 ∷ [])
    step id = grind (arith, common_steps, list_any-append, updates.0 id, is.same id)

    apart : (k d : ℕ) → k < length (take place ids)
        → get_or (take place ids) k d ≢ get_or ids place 0
    apart k d below e =
        let found = rw e at (Contains-get_or (take place ids) k d below) in
        false≢true (sym new ∙ is.same (get_or ids place 0)
        ∙ list_any-from_Contains nat_eq_equiv (get_or ids place 0) (take place ids) found)

-- the set has the id at the place already
pub known_again : (ids : List ℕ) (place : ℕ) {known : BTreeSet ℕ} → IsKnown ids place known
    → place < length ids → contains nat_cmp known (get_or ids place 0) ≡ true
    → IsFirstRepeat ids place
known_again ids place is inside old = record {
  inside = inside;
  repeats = Contains-from_any exact_unsigned_eq _ _ (sym (is.same (get_or ids place 0)) ∙ old);
  before = is.differ;
}

-- all ids came in
pub all_known : (ids : List ℕ) (place : ℕ) {known : BTreeSet ℕ} → IsKnown ids place known
    → length ids ≤ place → AllDiffer ids
all_known ids place is past = rw (← (take_all place ids past)) is.differ
