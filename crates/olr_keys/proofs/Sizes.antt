-- The width of a table: how great it is, and that each remaining total is less.
use Rattle.std.proofs.Common.{rules}
use Rattle.olr_keys.proofs.Common.{slice_get-get_or, slice_get_within, get_or_from_slice_get, ◌≡◌, ℕ, zero, suc, ◌+◌, ◌-◌, ◌*◌, ◌<◌, ◌≤◌, max, List, [], ◌∷◌, length, map, drop, take, Option, Some, None, refl, ap, add-one, arith, slice_index_or, slice_get, unwrap_or, IfSome, get_or, All, sum_by, le-max_left, le-max_right, mul-le-mul_right, sum_by-cons, sum_by-take-drop, sum_by-le, get_or-eq_default, cases_lt, take_all, take_more, Penalties, IsTable, count_of, penalty_at, max_leg, max_penalty, max_total, leg_to, IsCompletion, greatest, greatest_leg, bytes_of, most_of, width_of, RemainingAreBelow, TotalsAreBelow}
use Rattle.std.proofs.lemmas.List.Recursion.{max_push, max_bounds, max_least}
use Rattle.olr_keys.proofs.Bounds.{layer_sound, legs_sound}

empty_sum : {X : Type 0} (f : X → ℕ) (index : ℕ) → sum_by f (drop index []) ≡ 0
empty_sum f zero = refl
empty_sum f (suc index) = refl

drop_sum_suc : {X : Type 0} (f : X → ℕ) (none : X) (xs : List X) (index : ℕ) → f none ≡ 0
    → sum_by f (drop index xs) ≡ f (get_or xs index none) + sum_by f (drop (suc index) xs)
drop_sum_suc f none [] index is = omega (arith, empty_sum f index, empty_sum f (suc index))
drop_sum_suc f none (x ∷ xs) zero is = sum_by-cons f x xs
drop_sum_suc f none (x ∷ xs) (suc index) is = drop_sum_suc f none xs index is

-- a sum from an index on is that of the rest after it and of the element there
pub drop_sum : {X : Type 0} (f : X → ℕ) (none : X) (xs : List X) (index : ℕ) → f none ≡ 0
    → sum_by f (drop index xs) ≡ f (get_or xs index none) + sum_by f (drop (index + 1) xs)
drop_sum f none xs index is = rw add-one (drop_sum_suc f none xs index is)

pub sum_more : {X : Type 0} (f : X → ℕ) (none : X) (xs : List X) (index : ℕ) → f none ≡ 0
    → sum_by f (take (index + 1) xs) ≡ sum_by f (take index xs) + f (get_or xs index none)
sum_more f none xs index is = grind (arith, drop_sum, sum_by-take-drop)

pub greatest_more : (numbers : List ℕ) (index : ℕ) → index < length numbers
    → greatest (take (index + 1) numbers)
    ≡ max (greatest (take index numbers)) (get_or numbers index 0)
greatest_more numbers index inside = cc (
  take_more _ _ 0 inside,
  max_push greatest (λ number. number) refl (λ _ _. refl) (take index numbers)
      (get_or numbers index 0),
)

pub greatest_leg_more : (legs : List (Option ℕ)) (index : ℕ) → index < length legs
    → greatest_leg (take (index + 1) legs)
    ≡ max (greatest_leg (take index legs)) (unwrap_or (get_or legs index None) 0)
greatest_leg_more legs index inside = cc (
  take_more _ _ None inside,
  max_push greatest_leg (λ leg. unwrap_or leg 0) refl (λ _ _. refl) (take index legs)
      (get_or legs index None),
)

greatest_at_most : (numbers : List ℕ) (bound : ℕ) → All (λ (number : ℕ). number ≤ bound) numbers
    → greatest numbers ≤ bound
greatest_at_most numbers bound each =
    max_least greatest (λ number. number) refl (λ _ _. refl) numbers 0 bound
    (λ index inside. each index 0 inside)

some_at_most : (leg : Option ℕ) (bound : ℕ) → IfSome leg (λ penalty. penalty ≤ bound)
    → unwrap_or leg 0 ≤ bound
some_at_most None bound each = omega arith
some_at_most (Some leg) bound each = each

greatest_leg_at_most : (legs : List (Option ℕ)) {bound : ℕ}
    → All (λ (leg : Option ℕ). IfSome leg (λ penalty. penalty ≤ bound)) legs
    → greatest_leg legs ≤ bound
greatest_leg_at_most legs {bound} each =
    max_least greatest_leg (λ leg. unwrap_or leg 0) refl (λ _ _. refl) legs None bound
    (λ index inside. some_at_most (get_or legs index None) bound (each index None inside))

pub layer_at_most : (p : Penalties) (layer : ℕ) → IsTable p
    → greatest (slice_index_or p.candidates layer []) ≤ max_penalty
layer_at_most p layer sound = let it = layer_sound _ _ sound in greatest_at_most _ _ it.each

pub legs_at_most : (p : Penalties) (layer : ℕ) → IsTable p
    → greatest_leg (slice_index_or p.legs layer []) ≤ max_leg
legs_at_most p layer sound =
    grind (arith, cases_lt, legs_sound, greatest_leg_at_most, get_or-eq_default)

pub width_at_most : (p : Penalties) → IsTable p → width_of p ≤ max_total + 1
unfolding width_of
width_at_most p sound = omega (
  arith,
  sum_by-le greatest max_penalty p.candidates (λ k d inside. let it = sound.layers k d inside in
      greatest_at_most _ _ it.each),
  sum_by-le greatest_leg max_leg p.legs (λ k d inside.
      let it = sound.legs k (get_or p.legs k d) (slice_get-get_or p.legs k d inside) in
      greatest_leg_at_most _ it.each),
)

pub width_is : {p : Penalties} {layers sum : ℕ} → IsTable p → layers ≡ length p.candidates
    → sum ≡ sum_by greatest (take layers p.candidates) + sum_by greatest_leg (take layers p.legs)
    + 1 → sum ≡ width_of p
unfolding width_of
width_is {p} {layers} sound all is = grind (arith, take_all)

-- ---- candidates and bytes

length_greatest : (layers : List (List ℕ)) (index : ℕ) → index < length layers
    → length (get_or layers index []) ≤ greatest (map length layers)
length_greatest layers index inside =
    max_bounds (λ (layers : List (List ℕ)). greatest (map length layers)) length refl (λ _ _. refl)
    layers index [] inside

pub count_most : (p : Penalties) (layer : ℕ) → count_of p layer ≤ most_of p
unfolding most_of
count_most p layer = grind (arith, cases_lt, length_greatest, get_or-eq_default)

pub bytes_at_most : (p : Penalties)
    → bytes_of p ≤ (length p.candidates * most_of p + 1) * width_of p
unfolding most_of
bytes_at_most p =
    let most = λ (layers : List (List ℕ)). greatest (map length layers) in
    let sum = sum_by-le length (most_of p) p.candidates
    (max_bounds most length refl (λ _ _. refl) p.candidates) in
    mul-le-mul_right {m = sum_by length p.candidates + 1} {n = length p.candidates * most_of p + 1}
    (width_of p) (omega arith)

-- ---- each remaining total is less

penalty_greatest : (numbers : List ℕ) (index number : ℕ) → slice_get numbers index ≡ Some number
    → number ≤ greatest numbers
penalty_greatest numbers index number is = omega (
  arith,
  max_bounds greatest (λ number. number) refl (λ _ _. refl) numbers index 0
      (slice_get_within numbers index number is),
  get_or_from_slice_get numbers index number 0 is,
)

leg_greatest : (legs : List (Option ℕ)) (index leg : ℕ) → slice_index_or legs index None ≡ Some leg
    → leg ≤ greatest_leg legs
leg_greatest [] index leg is = absurd cc
leg_greatest (x ∷ xs) zero leg is = grind (arith, le-max_left)
leg_greatest (x ∷ xs) (suc index) leg is =
    omega (arith, leg_greatest xs index leg is, le-max_right (unwrap_or x 0) (greatest_leg xs))

-- the greatest penalty of a leg to a layer
greatest_leg_to : Penalties → ℕ → Option ℕ → ℕ
greatest_leg_to p layer None = 0
greatest_leg_to p layer (Some before) = greatest_leg (slice_index_or p.legs (layer - 1) [])

leg_at_greatest : (p : Penalties) (layer : ℕ) (before : Option ℕ) (rank leg : ℕ)
    → leg_to p layer before rank ≡ Some leg → leg ≤ greatest_leg_to p layer before
unfolding greatest_leg_to
leg_at_greatest p layer None rank leg is = let none : 0 ≡ leg = cc in omega arith
leg_at_greatest p layer (Some before) rank leg is = leg_greatest _ _ _ is

penalty_at_greatest : (p : Penalties) (layer rank penalty : ℕ)
    → penalty_at p layer rank ≡ Some penalty
    → penalty ≤ greatest (slice_index_or p.candidates layer [])
penalty_at_greatest p layer zero penalty is = absurd cc
penalty_at_greatest p layer (suc index) penalty is = penalty_greatest _ _ _ is

greatest_leg_next : (p : Penalties) (layer rank : ℕ)
    → greatest_leg_to p (layer + 1) (Some rank) ≡ greatest_leg (slice_index_or p.legs layer [])
unfolding greatest_leg_to
greatest_leg_next p layer rank =
    ap (λ (n : ℕ). greatest_leg (slice_index_or p.legs n [])) {x = layer + 1 - 1} (omega arith)

completion_below : (p : Penalties) (layer : ℕ) (before : Option ℕ) (ranks : List ℕ) (total : ℕ)
    → IsCompletion p layer before ranks total
    → total ≤ greatest_leg_to p layer before
    + (sum_by greatest (drop layer p.candidates) + sum_by greatest_leg (drop layer p.legs))
completion_below p layer before [] total completion = omega arith
completion_below p layer before (rank ∷ ranks) total
    (leg, penalty, rest, joined, there, later, sum) =
    grind (
      arith,
      leg_at_greatest,
      penalty_at_greatest,
      greatest_leg_next,
      drop_sum,
      completion_below p (layer + 1) (Some rank) ranks rest later,
    )

drop_at_most : {X : Type 0} (f : X → ℕ) (xs : List X) (index : ℕ)
    → sum_by f (drop index xs) ≤ sum_by f xs
drop_at_most f xs index = omega (arith, sum_by-take-drop f xs index)

no_leg_to : (p : Penalties) (layer : ℕ) → greatest_leg_to p layer None ≡ 0
unfolding greatest_leg_to
no_leg_to p layer = refl

pub remaining_below : RemainingAreBelow
unfolding width_of
remaining_below p layer rank total (ranks, completion) =
    search (rules, arith, completion_below, no_leg_to, drop_at_most, greatest, greatest_leg)

pub total_below : TotalsAreBelow
unfolding width_of
total_below p total (ranks, completion) = grind (arith, completion_below, no_leg_to)
