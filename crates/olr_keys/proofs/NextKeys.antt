-- The next key, from the next completion with a total and the first completion with the next total.
use Rattle.olr_keys.proofs.Common.{◌≡◌, ℕ, ◌+◌, ◌<◌, ◌≤◌, ◌⊎◌, List, [], ◌++◌, length, Bool, Option, Some, None, inl, inr, sym, ◌∙◌, ap, arith, Contains, Decides, IfSome, cases_eq, cases_lt, All-contains, IsNext, IsPosition, IsLeastOf, IsNextKey, answers_of, Penalties, IsTable, KeyValue, IsBefore, IsInRange, IsKey, IsCompletion, same_key, IsTotal, width_of, Appends, IsFirstTotal, IsFirstCompletion}
use Rattle.olr_keys.proofs.Listed.{has_list}
use Rattle.olr_keys.proofs.Ranges.{key_in_range, completion_length}
use Rattle.olr_keys.proofs.Sizes.{total_below}

-- ---- totals

-- no number up to a number is a total
abbrev pub HasNoTotalTo : Penalties → ℕ → ℕ → Type 0
HasNoTotalTo p from number = (total : ℕ) → from ≤ total → total < number → IsTotal p total → ⊥

pub no_more_totals : (p : Penalties) {from : ℕ} (number : ℕ) → HasNoTotalTo p from number
    → (IsTotal p number → ⊥) → HasNoTotalTo p from (number + 1)
no_more_totals p number none here total least below is = elim (cases_eq total number) [
  | inl same ↦ here (rw (← same) is)
  | inr other ↦ none _ least (omega arith) is
]

pub no_totals_at_all : (p : Penalties) {from number : ℕ} → width_of p ≤ number
    → HasNoTotalTo p from number → (total : ℕ) → from ≤ total → IsTotal p total → ⊥
no_totals_at_all p all none total least is = none _ least (omega (arith, total_below _ _ is)) is

-- ---- the first key from a total on

abbrev pub IsFrom : Penalties → ℕ → KeyValue → Type 0
IsFrom p from key = IsKey p key × (from ≤ key.total)

pub no_key_from : (p : Penalties) {from : ℕ} → ((total : ℕ) → from ≤ total → IsTotal p total → ⊥)
    → IsLeastOf (IsFrom p from) None
no_key_from p none key is = none key.total is.1 (key.ranks, is.0)

compare_first : {p : Penalties} {from : ℕ} (total : ℕ) {ranks : List ℕ} (key : KeyValue)
    → IsFirstTotal p from total → IsFirstCompletion p 0 None total ranks → IsFrom p from key
    → (key ≡ record { total = total; ranks = ranks })
    ⊎ IsBefore (record { total = total; ranks = ranks }) key
compare_first total key first completion is = elim (cases_eq total key.total) [
  | inl same ↦ elim (completion.first key.ranks (rw same is.0)) [
    | inl equal ↦ inl (same_key (sym same) equal)
    | inr before ↦ inr (inr (same, before))
  ]
  | inr other ↦ elim (cases_lt key.total total) [
    | inl less ↦ absurd (first.first key.total is.1 less (key.ranks, is.0))
    | inr more ↦ inr (inl (omega arith))
  ]
]

pub first_key_from : (p : Penalties) (from total : ℕ) (ranks : List ℕ) {found : KeyValue}
    → found ≡ record { total = total; ranks = ranks } → IsFirstTotal p from total
    → IsFirstCompletion p 0 None total ranks
    → IsFrom p from found × ((key : KeyValue) → IsFrom p from key → (key ≡ found)
    ⊎ IsBefore found key)
first_key_from p from total ranks is first completion =
    let whole : IsFrom p from (record { total = total; ranks = ranks })
    × ((key : KeyValue) → IsFrom p from key → (key ≡ record { total = total; ranks = ranks })
    ⊎ IsBefore (record { total = total; ranks = ranks }) key) = (
      (completion.completion, first.at_least),
      λ key from_key. compare_first _ _ first completion
          from_key,
    ) in
    rw is whole

-- ---- ranges

pub found_in_range : {p : Penalties} {total : ℕ} {ranks : List ℕ} → IsTable p
    → IsCompletion p 0 None ranks total → IsInRange (record { total = total; ranks = ranks })
found_in_range sound completion = key_in_range _ _ sound completion

pub found_alone : {P : List ℕ → Type 0} {none longer : List ℕ} → none ≡ [] → Appends none longer P
    → P longer
found_alone is (found, longer_is, holds) = rw (longer_is ∙ ap (λ l. l ++ found) is) holds

pub layers_at_most : (p : Penalties) {key : KeyValue} → IsKey p key → IsInRange key
    → length p.candidates ≤ 32
layers_at_most p is range = omega (arith, completion_length _ 0 _ _ _ is)

-- ---- the listed answers

is_matching : (p : Penalties) (key : KeyValue) → Contains (answers_of p) key → IsKey p key
is_matching p key there = let list = has_list _ in All-contains (IsKey p) _ _ list.only there

is_answer : (p : Penalties) {key : KeyValue} → IsKey p key → Contains (answers_of p) key
is_answer p {key} is = let list = has_list _ in list.each key is

-- a position at a key of the answers is at the key of a matching
pub position_is_key : (p : Penalties) (after : Option KeyValue) → IsPosition (answers_of p) after
    → IfSome after (IsKey p)
position_is_key p None position = tt
position_is_key p (Some after) position = is_matching _ _ position

pub member_decides : {p q : Penalties} {key : KeyValue} {test : Bool} → p ≡ q
    → Decides test (IsKey p key) → Decides test (Contains (answers_of q) key)
member_decides same decides = grind (arith, is_answer, is_matching)

-- the next key of all matchings is that of the answers
pub next_listed : (p : Penalties) (after found : Option KeyValue) → IsNextKey p after found
    → IsNext (answers_of p) after found
next_listed p after None none = λ key there. none key (is_matching _ _ there.0, there.1)
next_listed p after (Some found) (is, least) =
    ((is_answer _ is.0, is.1), λ key there. least key (is_matching _ _ there.0, there.1))
