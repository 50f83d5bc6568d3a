-- A table has exactly one list of answers.
use Rattle.olr_keys.proofs.Common.{◌≡◌, ℕ, zero, suc, ◌+◌, ◌≤◌, List, [], ◌∷◌, length, map, is_some, Option, Some, None, inl, inr, refl, sym, ap, ◌∙◌, subst, arith, Contains, list_any, on_texts, cases_lt, map-id, All-contains, All-contains_itself, Contains-append_cases, Contains-append_left, Contains-append_right, map-map, answers_of, by_key, entry_of, completions_with, lists_up_to, completions, KeyValue, IsBefore, IsKey, IsCompletion, Penalties, compared_by, asymmetric, further, here, member, same_list, OneList, HasList}
use Rattle.std.specs.Cmp.{IsTotalOrder}
use Rattle.std.specs.FinMap.{contains_key-keys, from_entries, get-from_entries, keys as keys_of}
use Rattle.std.specs.FinMap.Entries.{is_some-find}
use Rattle.std.specs.Ordering.{eq_by_cmp}
use Rattle.std.proofs.lemmas.Cmp.{eq_by_cmp_equiv}
use Rattle.std.proofs.lemmas.Map.Lookups.{CmpEqualImpliesEq}
use Rattle.std.proofs.lemmas.Map.Views.{Contains-from_any, list_any-from_Contains, tells_apart}
use Rattle.olr_keys.specs.Answers.{AreAnswers}
use Rattle.olr_keys.proofs.Ranges.{rank_inside}
use Rattle.olr_keys.specs.Rise.{answers_rise}
use Rattle.olr_keys.proofs.Completions.{layer_inside, same_some}

-- ---- at most one

contained : {p : Penalties} {a b : List KeyValue} → AreAnswers p a → AreAnswers p b
    → (key : KeyValue) → Contains a key → Contains b key
contained {p} {a} one other key there = other.each key (All-contains (IsKey p) a _ one.only there)

pub one_list : OneList
one_list p a b one other = same_list IsBefore asymmetric _ _ one.rise other.rise
    (contained one other) (contained other one)

-- ---- in order

is_total : IsTotalOrder by_key
is_total = on_texts (λ key. key.total ∷ key.ranks)

one_at_most : CmpEqualImpliesEq by_key
one_at_most a b tie = rw tie at (compared_by a b)

module _ (keys : List KeyValue) where
  abbrev entries : List (KeyValue × Unit {0})
  entries = map entry_of keys

  abbrev ordered : List KeyValue
  ordered = keys_of (from_entries {R = by_key} entries)

  -- a key is among those in order exactly if it is in the list
  same_keys : (key : KeyValue) → list_any (eq_by_cmp by_key key) ordered
      ≡ list_any (eq_by_cmp by_key key) keys
  same_keys key =
      sym (contains_key-keys (from_entries entries) key)
      ∙ ap is_some (get-from_entries is_total entries key)
      ∙ is_some-find by_key key entries
      ∙ ap (list_any (eq_by_cmp by_key key)) (map-map _ _ keys ∙ map-id keys)

  from_order : (key : KeyValue) → Contains ordered key → Contains keys key
  from_order key there = Contains-from_any (tells_apart one_at_most) key keys
      (sym (same_keys key) ∙ list_any-from_Contains (eq_by_cmp_equiv is_total) key ordered there)

  within_order : (key : KeyValue) → Contains keys key → Contains ordered key
  within_order key there = Contains-from_any (tells_apart one_at_most) key ordered
      (same_keys key ∙ list_any-from_Contains (eq_by_cmp_equiv is_total) key keys there)

-- ---- joined lists

within_lists : {X : Type 0} (last : ℕ) (list : ℕ → List X) (z : X) (rank : ℕ) → 1 ≤ rank
    → rank ≤ last → Contains (list rank) z → Contains (lists_up_to last list) z
unfolding lists_up_to
within_lists zero list z rank least most there = absurd (omega arith)
within_lists (suc last) list z rank least most there = elim (cases_lt last rank) [
  | inl above ↦ Contains-append_right _ _ z
      (subst (λ (n : ℕ). Contains (list n) z) (omega arith) there)
  | inr below ↦ Contains-append_left _ _ z (within_lists last _ z rank least (omega arith) there)
]

from_lists : {X : Type 0} (last : ℕ) (list : ℕ → List X) (z : X)
    → Contains (lists_up_to last list) z → (rank : ℕ) × Contains (list rank) z
unfolding lists_up_to
from_lists zero list z there = absurd (omega arith)
from_lists (suc last) list z there = elim (Contains-append_cases _ _ z there) [
  | inl left ↦ from_lists last _ z left
  | inr right ↦ (suc last, right)
]

-- ---- the completions

abbrev longer : ℕ → ℕ → ℕ → KeyValue → KeyValue
longer leg penalty rank key = record { total = leg + penalty + key.total; ranks = rank ∷ key.ranks }

from_map : {X Y : Type 0} (f : X → Y) (xs : List X) (z : Y) → Contains (map f xs) z → (x : X)
    × Contains xs x × (f x ≡ z)
from_map f [] z there = absurd (omega arith)
from_map f (x ∷ xs) z there = elim (member (f x) _ z there) [
  | inl same ↦ (x, here x _, same)
  | inr later ↦ let found = from_map f xs z later in (found.0, further x _ found.0 found.1, found.2)
]

within_map : {X Y : Type 0} (f : X → Y) (xs : List X) (x : X) → Contains xs x
    → Contains (map f xs) (f x)
within_map f [] x there = absurd (omega arith)
within_map f (y ∷ xs) x there = elim (member y _ x there) [
  | inl same ↦ rw (← same) (here (f y) _)
  | inr later ↦ further (f y) _ (f x) (within_map f xs x later)
]

from_completions_with : (leg penalty : Option ℕ) {rank : ℕ} (later : List KeyValue) {z : KeyValue}
    → Contains (completions_with leg penalty rank later) z
    → (l : ℕ) × (q : ℕ) × (key : KeyValue) × (leg ≡ Some l) × (penalty ≡ Some q)
    × Contains later key × (longer l q rank key ≡ z)
unfolding completions_with
from_completions_with None penalty later there = absurd (omega arith)
from_completions_with (Some l) None later there = absurd (omega arith)
from_completions_with (Some l) (Some q) later {z} there = let found = from_map _ _ z there in
    (l, q, found.0, refl, refl, found.1, found.2)

within_completions_with : (leg penalty : Option ℕ) {l q rank : ℕ} (later : List KeyValue)
    {key : KeyValue} → leg ≡ Some l → penalty ≡ Some q → Contains later key
    → Contains (completions_with leg penalty rank later) (longer l q rank key)
unfolding completions_with
within_completions_with None penalty later joined found there = absurd cc
within_completions_with (Some m) None later joined found there = absurd cc
within_completions_with (Some m) (Some r) {l} {q} later {key} joined found there =
    let leg = same_some _ _ refl joined in
    let penalty = same_some _ _ refl found in
    rw (← leg) (rw (← penalty) (within_map _ _ _ there))

from_completions : (p : Penalties) (left layer : ℕ) (before : Option ℕ) (z : KeyValue)
    → layer + left ≡ length p.candidates → Contains (completions p left layer before) z
    → IsCompletion p layer before z.ranks z.total
unfolding completions
from_completions p zero layer before z reaches there = grind (arith, member)
from_completions p (suc left) layer before z reaches there =
    let in_list = from_lists _ _ z there in
    let rank = in_list.0 in
    let with_rank = from_completions_with _ _ _ in_list.1 in
    let later = from_completions p left (layer + 1) (Some rank) with_rank.2 (omega arith)
    with_rank.5 in grind arith

within_completions : (p : Penalties) (left layer : ℕ) (before : Option ℕ) (ranks : List ℕ)
    (total : ℕ) → layer + left ≡ length p.candidates → IsCompletion p layer before ranks total
    → Contains (completions p left layer before) (record { total = total; ranks = ranks })
unfolding completions
within_completions p zero layer before [] total reaches completion = grind (arith, here)
within_completions p zero layer before (rank ∷ ranks) total reaches
    (leg, penalty, rest, joined, there, later, sum) = grind (arith, layer_inside)
within_completions p (suc left) layer before [] total reaches completion = absurd (omega arith)
within_completions p (suc left) layer before (rank ∷ ranks) total reaches
    (leg, penalty, rest, joined, there, later, sum) =
    let inside = rank_inside p _ _ _ there in
    let found = within_completions_with _ _ _ joined there
    (within_completions p left (layer + 1) (Some rank) ranks rest (omega arith) later) in
    rw sum (within_lists _ _ _ _
    inside.0 inside.1 found)

-- ---- at least one

pub has_list : HasList
unfolding answers_of
has_list p =
    record {
      only = λ k d inside. from_completions _ _ 0 _ _ (omega arith)
          (from_order _ _ (All-contains_itself _ k d inside));
      each = λ key is. within_order _ _ (within_completions _ _ 0 _ _ _ (omega arith) is);
      rise = answers_rise _;
    }
