-- Options, and lists by their indices.
use Rattle.olr_why.proofs.Common.{◌≡◌, ℕ, ◌+◌, ◌<◌, List, [], ◌∷◌, ◌++◌, length, refl, sym, ◌∙◌, ap, subst, inl, inr, arith, ◌↔◌, Bool, true, false, Option, None, Some, MatchOption, Any, Contains, IsSome, is_some, slice_get, slice_index_or, cases_lt, get_or_default, length_push, Contains-append_left, Contains-push, Contains-push_cases, push_each}
use Rattle.std.proofs.Math.ListN.{get_or-eq_default}

pub some_of : {X : Type 0} (o : Option X) → IsSome o → (x : X) × (o ≡ Some x)
some_of None is = absurd cc
some_of (Some x) is = (x, refl)

pub is_some_from : {X : Type 0} (o : Option X) (x : X) → o ≡ Some x → IsSome o
is_some_from o x is = ap is_some is

-- what excludes that there is none, and is one value where there is one, is one option
pub one_option : {X N : Type 0} {Is : X → Type 0} (a b : Option X) → ((x : X) → Is x → N → ⊥)
    → ((x y : X) → Is x → Is y → x ≡ y) → MatchOption a N Is → MatchOption b N Is → a ≡ b
one_option None None not one_value one other = refl
one_option None (Some y) not one_value none is = absurd (not y is none)
one_option (Some x) None not one_value is none = absurd (not x is none)
one_option (Some x) (Some y) not one_value one other = ap Some (one_value x y one other)

-- a test isn't both
pub not_both : {b : Bool} → b ≡ true → b ≡ false → ⊥
not_both is is_not = absurd cc

-- ---- lists of options

-- the index of a value is before the end
pub some_inside : {X : Type 0} (xs : List (Option X)) (k : ℕ) (x : X)
    → slice_index_or xs k None ≡ Some x → k < length xs
some_inside {X} xs k x is = elim (cases_lt k (length xs)) [
  | inl inside ↦ inside
  | inr outside ↦ let none : ◌≡◌ {A = Option X} None (Some x) =
      sym (get_or-eq_default xs None {n = k} outside) ∙ is in absurd cc
]

-- a list that has a value has one
pub any_some : {X : Type 0} (xs : List (Option X)) (k : ℕ) (x : X)
    → slice_index_or xs k None ≡ Some x → Any (λ (o : Option X). IsSome o) xs
any_some {X} xs k x is =
    let inside = some_inside xs k x is in
    (k, Some x, inside, get_or_default xs k (Some x) None inside ∙ is, refl)

-- and one that has one has it at an index
pub some_at : {X : Type 0} (xs : List (Option X)) → Any (λ (o : Option X). IsSome o) xs
    → (k : ℕ) × (x : X) × (k < length xs) × (slice_index_or xs k None ≡ Some x)
some_at xs (k, o, inside, at, some) =
    let found = some_of o some in (
      k,
      found.0,
      inside,
      get_or_default xs k None o inside ∙ at ∙ found.1,
    )

-- ---- numbers gathered in a list

-- the list has exactly the numbers below a bound of which this holds
abbrev pub AreBelow : (ℕ → Type 0) → ℕ → List ℕ → Type 0
AreBelow P bound numbers = (number : ℕ) → Contains numbers number ↔ ((number < bound) × P number)

-- one more of which it holds
pub one_more : (P : ℕ → Type 0) (bound : ℕ) (numbers : List ℕ) → AreBelow P bound numbers → P bound
    → AreBelow P (bound + 1) (numbers ++ bound ∷ [])
one_more P bound numbers all holds number = (
  λ there. elim (Contains-push_cases numbers bound number there) [
    | inl earlier ↦ let found = (all number).0 earlier in (omega (arith, found.0), found.1)
    | inr last ↦ (omega (arith, last), subst P last holds)
  ],
  λ below. elim (cases_lt number bound) [
    | inl earlier ↦ Contains-append_left numbers (bound ∷ []) number
        ((all number).1 (earlier, below.1))
    | inr last ↦ let same : bound ≡ number = omega (arith, last, below.0) in
        subst (λ (n : ℕ). Contains (numbers ++ bound ∷ []) n) same (Contains-push numbers bound)
  ],
)

-- one of which it doesn't
pub no_more : (P : ℕ → Type 0) (bound : ℕ) (numbers : List ℕ) → AreBelow P bound numbers
    → (P bound → ⊥) → AreBelow P (bound + 1) numbers
no_more P bound numbers all fails number = (
  λ there. let found = (all number).0 there in (omega (arith, found.0), found.1),
  λ below. elim (cases_lt number bound) [
    | inl earlier ↦ (all number).1 (earlier, below.1)
    | inr last ↦ let same : number ≡ bound = omega (arith, last, below.0) in
        absurd (fails (subst P same below.1))
  ],
)

-- ---- a list with one more element

-- so many elements, of each of which this holds by its index
pub record AreSoFar {X : Type 0} (P : ℕ → X → Type 0) (count : ℕ) (xs : List X) : Type 0 where
  pub long : length xs ≡ count
  pub each : (index : ℕ) (x : X) → slice_get xs index ≡ Some x → P index x

pub one_more_element : {X : Type 0} {P : ℕ → X → Type 0} {count : ℕ} {xs more : List X} {x : X}
    → AreSoFar P count xs → P count x → more ≡ xs ++ x ∷ [] → AreSoFar P (count + 1) more
one_more_element {P} {xs} {x} so_far here is = rw is (record {
  long = length_push xs x ∙ ap (λ (n : ℕ). n + 1) so_far.long;
  each = push_each P xs x so_far.each (rw so_far.long here);
})
