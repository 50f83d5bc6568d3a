-- The greatest worth, and how far others lie below it, in numbers without a sign.
use Rattle.std.proofs.Common.{◌≡◌, ◌≤◌, ◌<◌, ◌⊎◌, ℕ, suc, ◌+◌, ◌-◌, min, arith, ℤ, pos, ◌+ℤ◌, ◌≤ℤ◌, int_le, nat_abs, Bool, true, false, if◌then◌else◌, List, [], ◌∷◌, length, map, All, Contains, inl, inr, refl, sym, subst, ap, ◌∙◌}
use Rattle.std.proofs.lemmas.Int.{ints}
use Rattle.std.proofs.lemmas.List.{get_or-map, length-map}
use Rattle.std.proofs.lemmas.List.Elements.{All-cons, All-head, All-nil, All-tail}
use Rattle.olr_confidence.specs.Shares.{AreProbabilities}
use Rattle.olr_confidence.specs.declared.shares.Probabilities.{Probabilities}
use Rattle.olr_confidence.specs.Worths.{AreOfWorths, below, worth_of}
use Rattle.olr_confidence.specs.inner.Below.{below_zero, lead_of, least_of, places_below}

-- the greatest worth of none and of the place that loses least, by whether none is ahead
abbrev greatest_if : Bool → ℤ → ℕ → ℤ
greatest_if is_ahead none least = if is_ahead then none else worth_of least

one_below : (is_ahead : Bool) (none : ℤ) (least lost : ℕ)
    → int_le (pos 0) (none +ℤ pos least) ≡ is_ahead → least ≤ lost
    → below (greatest_if is_ahead none least) (worth_of lost)
    ≡ (lost - least) + (if is_ahead then nat_abs (none +ℤ pos least) else 0)
one_below true none least lost ahead le = grind (arith, ints)
one_below false none least lost ahead le = grind (arith, ints)

pub none_below : (is_ahead : Bool) (none : ℤ) (least : ℕ)
    → int_le (pos 0) (none +ℤ pos least) ≡ is_ahead
    → below (greatest_if is_ahead none least) none
    ≡ (if is_ahead then 0 else nat_abs (none +ℤ pos least))
none_below true none least ahead = grind (arith, ints)
none_below false none least ahead = grind (arith, ints)

pub none_least : (is_ahead : Bool) (none : ℤ) (least : ℕ)
    → int_le (pos 0) (none +ℤ pos least) ≡ is_ahead → none ≤ℤ greatest_if is_ahead none least
none_least true none least ahead = grind (arith, ints)
none_least false none least ahead = grind (arith, ints)

place_least : (is_ahead : Bool) (none : ℤ) (least lost : ℕ)
    → int_le (pos 0) (none +ℤ pos least) ≡ is_ahead → least ≤ lost
    → worth_of lost ≤ℤ greatest_if is_ahead none least
place_least true none least lost ahead le = grind (arith, ints)
place_least false none least lost ahead le = grind (arith, ints)

-- ---- no place loses less than the one that loses least

both_at_most : (least first others : ℕ) → least ≤ min first others → (least ≤ first) × (least ≤ others)
both_at_most least first others le = (omega arith, omega arith)

pub all_at_least : (least : ℕ) (losses : List ℕ) → 0 < length losses → least ≤ least_of losses
    → All (λ lost. least ≤ lost) losses
all_at_least least [] there le = absurd (omega arith)
all_at_least least (first ∷ []) there le =
    All-cons (λ lost. least ≤ lost) first [] le (All-nil (λ lost. least ≤ lost))
all_at_least least (first ∷ next ∷ rest) there le =
    let both = both_at_most least first (least_of (next ∷ rest)) le in
    All-cons (λ lost. least ≤ lost) first (next ∷ rest) both.0
    (all_at_least least (next ∷ rest) (omega arith) both.1)

min_is : (a b : ℕ) → (min a b ≡ a) ⊎ (min a b ≡ b)
min_is a b = grind (arith)

-- and one loses it
pub least_is_there : (losses : List ℕ) → 0 < length losses → Contains losses (least_of losses)
least_is_there [] there = absurd (omega arith)
least_is_there (first ∷ []) there = (0, omega arith, refl)
least_is_there (first ∷ next ∷ rest) there =
    let all : List ℕ = first ∷ next ∷ rest in
    elim (min_is first (least_of (next ∷ rest))) [
      | inl same ↦ subst (λ one. Contains all one) (sym same) (0, omega arith, refl)
      | inr same ↦
          let behind = least_is_there (next ∷ rest) (omega arith) in
          subst (λ one. Contains all one) (sym same)
          (suc behind.0, omega (arith, behind.1), behind.2)
    ]

-- ---- as the program has them

module _ (is_ahead : Bool) (none : ℤ) (least : ℕ)
    (ahead : int_le (pos 0) (none +ℤ pos least) ≡ is_ahead) where
  all_below : (losses : List ℕ) → All (λ lost. least ≤ lost) losses
      → map (below (greatest_if is_ahead none least)) (map worth_of losses)
      ≡ map (λ lost. (lost - least) + (if is_ahead then nat_abs (none +ℤ pos least) else 0)) losses
  all_below [] all = refl
  all_below (lost ∷ rest) all = cons_both
      (one_below is_ahead none least lost ahead (All-head (λ lost. least ≤ lost) lost rest all))
      (all_below rest (All-tail (λ lost. least ≤ lost) lost rest all))
    where
      cons_both : {x y : ℕ} {xs ys : List ℕ} → x ≡ y → xs ≡ ys → x ∷ xs ≡ y ∷ ys
      cons_both one more = cc

  all_at_most : (losses : List ℕ) → All (λ lost. least ≤ lost) losses
      → All (λ worth. worth ≤ℤ greatest_if is_ahead none least) (map worth_of losses)
  all_at_most [] all = All-nil (λ worth. worth ≤ℤ greatest_if is_ahead none least)
  all_at_most (lost ∷ rest) all =
      All-cons (λ worth. worth ≤ℤ greatest_if is_ahead none least) (worth_of lost) (map worth_of rest)
      (place_least is_ahead none least lost ahead (All-head (λ lost. least ≤ lost) lost rest all))
      (all_at_most rest (All-tail (λ lost. least ≤ lost) lost rest all))

there_as_worth : (losses : List ℕ) (least : ℕ) → Contains losses least
    → Contains (map worth_of losses) (worth_of least)
there_as_worth losses least there = (
  there.0,
  omega (arith, there.1, length-map losses worth_of),
  get_or-map worth_of losses there.0 least (worth_of least) there.1 ∙ ap worth_of there.2,
)

is_one_of : (is_ahead : Bool) (none : ℤ) (losses : List ℕ) → 0 < length losses
    → (greatest_if is_ahead none (least_of losses) ≡ none)
    ⊎ Contains (map worth_of losses) (greatest_if is_ahead none (least_of losses))
is_one_of true none losses there = inl refl
is_one_of false none losses there =
    inr (there_as_worth losses (least_of losses) (least_is_there losses there))

pub are_of_worths : (none : ℤ) (losses : List ℕ) (found : Probabilities) → 0 < length losses
    → AreProbabilities (below_zero (lead_of none losses)) (places_below none losses) found
    → AreOfWorths none (map worth_of losses) found
are_of_worths none losses found there are =
    let is_ahead = int_le (pos 0) (none +ℤ pos (least_of losses)) in
    let least = least_of losses in
    let each = all_at_least least losses there (omega arith) in
    record {
      greatest = greatest_if is_ahead none least;
      is_greatest = record {
        is_one = is_one_of is_ahead none losses there;
        none_at_most = none_least is_ahead none least refl;
        places_at_most = all_at_most is_ahead none least refl losses each;
      };
      are_probabilities =
          subst (λ one. AreProbabilities one
          (map (below (greatest_if is_ahead none least)) (map worth_of losses)) found)
          (sym (none_below is_ahead none least refl))
          (subst (λ all. AreProbabilities (below_zero (lead_of none losses)) all found)
          (sym (all_below is_ahead none least refl losses each)) are);
    }
