-- The order of walks by their lengths and the ranks of their lines.
use Rattle.std.proofs.Common.{◌≡◌, ℕ, ◌+◌, ◌≤◌, List, [], ◌∷◌, arith, Bool, true, false, cond, refl, inr, subst, sym}
use Rattle.std.proofs.lemmas.Bool.Decides.{nat_tests}
use Rattle.std.proofs.lemmas.Cmp.{same_from_slice_cmp_tested}
use Rattle.std.specs.Cmp.Lexicographic.{slice_partial_cmp}
use Rattle.std.specs.Ordering.{is_lt, is_some_and, nat_cmp}
use Rattle.std.specs.Prelude.{MatchBool, nat_eq, nat_lt, Some}
use Rattle.olr_route.specs.Route.{IsUpTo}
use Rattle.olr_legs.specs.Way.{IsUpToWay}

pub up_to_trans : (a b c : List ℕ) → IsUpTo a b → IsUpTo b c → IsUpTo a c
up_to_trans [] b c ab bc = tt
up_to_trans (x ∷ a) [] c ab bc = absurd ab
up_to_trans (x ∷ a) (y ∷ b) [] ab bc = absurd bc
up_to_trans (x ∷ a) (y ∷ b) (z ∷ c) ab bc = grind (arith, up_to_trans a b c)

pub up_to_itself : (a : List ℕ) → IsUpTo a a
up_to_itself [] = tt
up_to_itself (x ∷ a) = grind (arith, up_to_itself a)

pub way_trans : (k l m : ℕ) (a b c : List ℕ) → IsUpToWay k a l b → IsUpToWay l b m c
    → IsUpToWay k a m c
way_trans k l m a b c ab bc = grind (arith, up_to_trans a b c)

-- the same line in front of both
pub way_cons : (long k l line : ℕ) (a b : List ℕ) → IsUpToWay k a l b
    → IsUpToWay (long + k) (line ∷ a) (long + l) (line ∷ b)
way_cons long k l line a b up = grind arith

-- ---- what the comparison of two lists says

abbrev is_before : List ℕ → List ℕ → Bool
is_before [] [] = false
is_before [] (y ∷ ys) = true
is_before (x ∷ xs) [] = false
is_before (x ∷ xs) (y ∷ ys) = cond (nat_eq x y) (is_before xs ys) (nat_lt x y)

one_before : (x y : ℕ) (xs ys : List ℕ)
    → MatchBool (is_before xs ys) (IsUpTo xs ys) (IsUpTo ys xs)
    → MatchBool (is_before (x ∷ xs) (y ∷ ys)) (IsUpTo (x ∷ xs) (y ∷ ys)) (IsUpTo (y ∷ ys) (x ∷ xs))
one_before x y xs ys rest = grind (arith, nat_tests)

before_says : (xs ys : List ℕ) → MatchBool (is_before xs ys) (IsUpTo xs ys) (IsUpTo ys xs)
before_says [] [] = tt
before_says [] (y ∷ ys) = tt
before_says (x ∷ xs) [] = tt
before_says (x ∷ xs) (y ∷ ys) = one_before x y xs ys (before_says xs ys)

pub less_says : (xs ys : List ℕ) (less : Bool)
    → less ≡ is_some_and is_lt (slice_partial_cmp (λ x y. Some (nat_cmp x y)) xs ys)
    → MatchBool less (IsUpTo xs ys) (IsUpTo ys xs)
less_says xs ys less is =
    let P : Bool → Type 0 = λ b. MatchBool b (IsUpTo xs ys) (IsUpTo ys xs) in
    subst P (sym (same_from_slice_cmp_tested nat_cmp is_lt is_before refl (λ _ _. refl) (λ _ _. refl)
    (λ x y xs ys o h. grind (arith, nat_tests)) xs ys less is)) (before_says xs ys)

pub shorter_says : (k l : ℕ) (a b : List ℕ) (less : Bool) → k ≡ l
    → MatchBool less (IsUpTo a b) (IsUpTo b a)
    → MatchBool less (IsUpToWay k a l b) (IsUpToWay l b k a)
shorter_says k l a b true same up = inr (same, up)
shorter_says k l a b false same up = inr (sym same, up)

pub way_itself : (k : ℕ) (a : List ℕ) → IsUpToWay k a k a
way_itself k a = inr (refl, up_to_itself a)

-- a walk that isn't behind one over a line isn't behind a later one over that line
pub way_over : (first long k l m line : ℕ) (one a b : List ℕ)
    → IsUpToWay first one (long + k) (line ∷ a) → IsUpToWay k a l b → m ≡ long + l
    → IsUpToWay first one m (line ∷ b)
way_over first long k l m line one a b up later same =
    subst (λ n. IsUpToWay first one n (line ∷ b)) (sym same)
    (way_trans first (long + k) (long + l) one (line ∷ a) (line ∷ b) up
    (way_cons long k l line a b later))

-- and it isn't longer
pub way_length : (k l : ℕ) (a b : List ℕ) → IsUpToWay k a l b → k ≤ l
way_length k l a b up = grind arith
