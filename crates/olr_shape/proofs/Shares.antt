-- The nearest whole number to a share of a difference, and what lies between two numbers.
use Rattle.std.proofs.Common.{◌≡◌, ℕ, suc, ◌+◌, ◌-◌, ◌*◌, ◌/◌, ◌<◌, ◌≤◌, arith, ℤ, pos, negsuc, ◌+ℤ◌, ◌-ℤ◌, ◌*ℤ◌, ◌≤ℤ◌, ◌<ℤ◌, neg_ℤ, refl, ap, ◌∙◌, FitsSigned, w32, w64, to_z, of_z}
use Rattle.std.proofs.lemmas.Int.{by_lt_z, ints, to_z-of_z}
use Rattle.std.proofs.lemmas.Nat.{div-mul-add, div_below, mul-le}
use Rattle.std.proofs.Math.IntN.{*ℤ-zero}
use Rattle.std.specs.Int.{w128}
use Rattle.olr_metric.specs.Floor.{floor}
use Rattle.olr_metric.specs.Segment.{IsBetween}
use Rattle.olr_shape.specs.Position.{nearest_whole, share_between}

-- ---- quotients rounded down

floor_at_least : (z : ℤ) (d m : ℕ) → 0 < d → neg_ℤ (pos (m * d)) ≤ℤ z
    → neg_ℤ (pos m) ≤ℤ floor z d
floor_at_least (pos a) d m some least = omega (arith, ints)
floor_at_least (negsuc a) d m some least =
    let less : a < m * d = omega (arith, ints) in
    let is = div_below a d m some less in
    omega (arith, ints)

floor_at_most : (z : ℤ) (d m : ℕ) → 0 < d → z <ℤ pos (suc m * d) → floor z d ≤ℤ pos m
floor_at_most (pos a) d m some less =
    let is = div_below a d (suc m) some (omega (arith, ints)) in
    omega (arith, ints)
floor_at_most (negsuc a) d m some less = omega (arith, ints)

-- ---- shares

share_up : (n part whole : ℕ) → part ≤ whole → 0 < whole
    → (pos 0 ≤ℤ nearest_whole (pos n *ℤ pos part) whole)
    × (nearest_whole (pos n *ℤ pos part) whole ≤ℤ pos n)
share_up n part whole within some =
    let less : n * part ≤ n * whole = mul-le n part n whole (omega arith) within in
    let twice : ℤ = (pos n *ℤ pos part) *ℤ pos 2 +ℤ pos whole in (
      floor_at_least twice (2 * whole) 0 (omega arith) (omega (arith, ints)),
      floor_at_most twice (2 * whole) n (omega arith) (omega (arith, ints)),
    )

share_down : (n part whole : ℕ) → part ≤ whole → 0 < whole
    → (negsuc n ≤ℤ nearest_whole (negsuc n *ℤ pos part) whole)
    × (nearest_whole (negsuc n *ℤ pos part) whole ≤ℤ pos 0)
share_down n part whole within some =
    let less : suc n * part ≤ suc n * whole =
    mul-le (suc n) part (suc n) whole (omega arith) within in
    let twice : ℤ = (negsuc n *ℤ pos part) *ℤ pos 2 +ℤ pos whole in (
      floor_at_least twice (2 * whole) (suc n) (omega arith) (omega (arith, ints)),
      floor_at_most twice (2 * whole) 0 (omega arith) (omega (arith, ints)),
    )

up : (p q d : ℤ) (n : ℕ) → q -ℤ p ≡ pos n → (pos 0 ≤ℤ d) × (d ≤ℤ pos n) → IsBetween p q (p +ℤ d)
up p q d n is lies = grind (arith, ints)

down : (p q d : ℤ) (n : ℕ) → q -ℤ p ≡ negsuc n → (negsuc n ≤ℤ d) × (d ≤ℤ pos 0)
    → IsBetween p q (p +ℤ d)
down p q d n is lies = grind (arith, ints)

lies : (p q d : ℤ) (part whole : ℕ) → q -ℤ p ≡ d → part ≤ whole → 0 < whole
    → IsBetween p q (p +ℤ nearest_whole (d *ℤ pos part) whole)
lies p q (pos n) part whole is within some = up p q _ n is (share_up n part whole within some)
lies p q (negsuc n) part whole is within some =
    down p q _ n is (share_down n part whole within some)

-- a share of the way from one number to another lies between them
pub share_lies : (p q : ℤ) (part whole : ℕ) → part ≤ whole → 0 < whole
    → IsBetween p q (share_between p q part whole)
share_lies p q part whole within some = lies p q _ part whole refl within some

-- ---- at the ends

-- nothing of a difference, and all of it
pub no_share : (z : ℤ) (whole : ℕ) → 0 < whole → nearest_whole (z *ℤ pos 0) whole ≡ pos 0
no_share z whole some =
    let none : z *ℤ pos 0 ≡ pos 0 = *ℤ-zero z in
    let half : (0 + whole) / (2 * whole) ≡ 0 = ap (λ n. n / (2 * whole)) (omega arith)
    ∙ div-mul-add 0 (2 * whole) whole (omega arith) in
    rw none (ap pos half)

pub whole_share : (z : ℤ) (whole : ℕ) → 0 < whole → nearest_whole (z *ℤ pos whole) whole ≡ z
whole_share (pos n) whole some =
    let is : n * whole * 2 + whole ≡ n * (2 * whole) + whole = omega arith in
    ap pos (ap (λ k. k / (2 * whole)) is ∙ div-mul-add n (2 * whole) whole (omega arith))
whole_share (negsuc n) whole some =
    let twice : (negsuc n *ℤ pos whole) *ℤ pos 2 +ℤ pos whole
    ≡ negsuc (n * (2 * whole) + (whole - 1)) = omega (arith, ints) in
    ap (λ (z : ℤ). floor z (2 * whole)) twice
    ∙ ap negsuc (div-mul-add n (2 * whole) (whole - 1) (omega arith))

-- ---- as the code has it

between_near : (p q x : ℤ) → FitsSigned w32 p → FitsSigned w32 q → IsBetween p q x
    → FitsSigned w32 x
between_near p q x fits_p fits_q is = grind (arith, by_lt_z, ints)

pub share_near : (p q : ℤ) (part whole : ℕ) → FitsSigned w32 p → FitsSigned w32 q → part ≤ whole
    → 0 < whole → FitsSigned w32 (share_between p q part whole)
share_near p q part whole fits_p fits_q within some =
    between_near p q _ fits_p fits_q (share_lies p q part whole within some)

wide_is : (p q d : ℤ) → FitsSigned w32 p → FitsSigned w32 q → d ≡ q -ℤ p
    → to_z w64 (of_z w64 d) ≡ q -ℤ p
wide_is p q d fits_p fits_q is = omega (arith, ints)

wide_sum_is : (p r from share : ℤ) → FitsSigned w32 p → FitsSigned w32 r → from ≡ p
    → p +ℤ share ≡ r
    → to_z w128 (of_z w128 (to_z w128 (of_z w128 from) +ℤ to_z w128 (of_z w128 share))) ≡ r
wide_sum_is p r from share fits_p fits_r is sum = omega (arith, ints)

-- the sum of a coordinate and a share
pub sum_is : (p q from d share : ℤ) (part whole : ℕ) → FitsSigned w32 p → FitsSigned w32 q
    → from ≡ to_z w32 (of_z w32 p)
    → d ≡ to_z w32 (of_z w32 q) -ℤ to_z w32 (of_z w32 p)
    → share ≡ nearest_whole (to_z w64 (of_z w64 d) *ℤ pos part) whole → part ≤ whole → 0 < whole
    → to_z w128 (of_z w128 (to_z w128 (of_z w128 from) +ℤ to_z w128 (of_z w128 share)))
    ≡ share_between p q part whole
sum_is p q from d share part whole fits_p fits_q from_is d_is share_is within some =
    let p_is = to_z-of_z w32 p fits_p in
    let q_is = to_z-of_z w32 q fits_q in
    let wide = wide_is p q d fits_p fits_q (cc) in
    let sum : p +ℤ share ≡ share_between p q part whole = cc in
    wide_sum_is p _ from share fits_p (share_near p q part whole fits_p fits_q within some) (cc) sum
