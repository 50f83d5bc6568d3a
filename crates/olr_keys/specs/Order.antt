-- Proofs of laws of the order of keys: it is transitive and asymmetric, of two different keys one
-- comes before the other, and a comparison decides it. A reader of the contracts may skip this
-- file. It is here because Rise.antt cites it.
use Rattle.std.proofs.Common.{◌≡◌, ℕ, ◌<◌, ◌⊎◌, List, [], ◌∷◌, inl, inr, refl, sym, ◌∙◌, arith}
use Rattle.std.specs.Ordering.{MatchOrdering, nat_cmp, ordering_then}
use Rattle.std.specs.Cmp.{ranks}
use Rattle.std.specs.Cmp.Lexicographic.{slice_cmp}
use Rattle.std.specs.declared.cmp.Ordering.{Ordering}
use Rattle.std.specs.declared.cmp.Ordering.TheVariants.{Less, Equal, Greater}
use Rattle.olr_keys.specs.AnswersOf.{by_key}
use Rattle.olr_keys.specs.Key.{KeyValue, AreBefore, IsBefore}

-- ---- lists of numbers

lists_transitive : (a b c : List ℕ) → AreBefore a b → AreBefore b c → AreBefore a c
lists_transitive a b [] one other = absurd other
lists_transitive a [] (z ∷ c) one other = absurd one
lists_transitive [] (y ∷ b) (z ∷ c) one other = tt
lists_transitive (x ∷ a) (y ∷ b) (z ∷ c) (inl one) (inl other) = inl (omega arith)
lists_transitive (x ∷ a) (y ∷ b) (z ∷ c) (inl one) (inr other) = inl (omega arith)
lists_transitive (x ∷ a) (y ∷ b) (z ∷ c) (inr one) (inl other) = inl (omega arith)
lists_transitive (x ∷ a) (y ∷ b) (z ∷ c) (inr one) (inr other) =
    inr (one.0 ∙ other.0, lists_transitive a b c one.1 other.1)

lists_asymmetric : (a b : List ℕ) → AreBefore a b → AreBefore b a → ⊥
lists_asymmetric a [] one other = one
lists_asymmetric [] (y ∷ b) one other = other
lists_asymmetric (x ∷ a) (y ∷ b) (inl one) (inl other) = omega arith
lists_asymmetric (x ∷ a) (y ∷ b) (inl one) (inr other) = omega arith
lists_asymmetric (x ∷ a) (y ∷ b) (inr one) (inl other) = omega arith
lists_asymmetric (x ∷ a) (y ∷ b) (inr one) (inr other) = lists_asymmetric a b one.1 other.1

with_first : (x y : ℕ) (a b : List ℕ) (first later : Ordering)
    → MatchOrdering first (x < y) (x ≡ y) (y < x)
    → MatchOrdering later (AreBefore a b) (a ≡ b) (AreBefore b a)
    → MatchOrdering (ordering_then first later) (AreBefore (x ∷ a) (y ∷ b)) (x ∷ a ≡ y ∷ b)
    (AreBefore (y ∷ b) (x ∷ a))
with_first x y a b Less later less rest = inl less
with_first x y a b Equal Less same less = inr (same, less)
with_first x y a b Equal Equal same rest = cc
with_first x y a b Equal Greater same more = inr (sym same, more)
with_first x y a b Greater later more rest = inl more

lists_compared : (a b : List ℕ)
    → MatchOrdering (slice_cmp nat_cmp a b) (AreBefore a b) (a ≡ b) (AreBefore b a)
lists_compared [] [] = refl
lists_compared [] (y ∷ b) = tt
lists_compared (x ∷ a) [] = tt
lists_compared (x ∷ a) (y ∷ b) = with_first x y a b _ _ (ranks x y) (lists_compared a b)

-- ---- keys: each is the list of its total and then its ranks

pub transitive : (a b c : KeyValue) → IsBefore a b → IsBefore b c → IsBefore a c
transitive a b c = lists_transitive (a.total ∷ a.ranks) (b.total ∷ b.ranks) (c.total ∷ c.ranks)

pub asymmetric : (a b : KeyValue) → IsBefore a b → IsBefore b a → ⊥
asymmetric a b = lists_asymmetric (a.total ∷ a.ranks) (b.total ∷ b.ranks)

pub same_key : {total other : ℕ} {ranks others : List ℕ} → total ≡ other → ranks ≡ others
    → ◌≡◌ {A = KeyValue} (record { total = total; ranks = ranks })
    (record { total = other; ranks = others })
same_key one two = cc

by_result : (a b : KeyValue) (result : Ordering)
    → MatchOrdering result (IsBefore a b) (a.total ∷ a.ranks ≡ b.total ∷ b.ranks) (IsBefore b a)
    → MatchOrdering result (IsBefore a b) (a ≡ b) (IsBefore b a)
by_result a b Less before = before
by_result a b Equal same = same_key (cc) (cc)
by_result a b Greater after = after

pub compared_by : (a b : KeyValue)
    → MatchOrdering (by_key a b) (IsBefore a b) (a ≡ b) (IsBefore b a)
compared_by a b = by_result a b _ (lists_compared (a.total ∷ a.ranks) (b.total ∷ b.ranks))

of_result : (a b : KeyValue) (result : Ordering)
    → MatchOrdering result (IsBefore a b) (a ≡ b) (IsBefore b a)
    → (a ≡ b) ⊎ (IsBefore a b ⊎ IsBefore b a)
of_result a b Less before = inr (inl before)
of_result a b Equal same = inl same
of_result a b Greater after = inr (inr after)

pub compared : (a b : KeyValue) → (a ≡ b) ⊎ (IsBefore a b ⊎ IsBefore b a)
compared a b = of_result a b _ (compared_by a b)
