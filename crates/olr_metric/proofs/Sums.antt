-- Sums of two products.
use Rattle.olr_metric.proofs.Common.{◌≡◌, ℕ, ◌^◌, ◌+◌, ◌≤◌, arith, ℤ, ◌+ℤ◌, to_z, of_z, FitsSigned, nat_abs, w128, ints, to_z-of_z, fits_signed_from_abs}

sum_near : (x y : ℤ) {m : ℕ} → nat_abs x ≤ m → nat_abs y ≤ m → nat_abs (x +ℤ y) ≤ m + m
sum_near x y near_x near_y = omega (arith, ints)

wide_is : (x : ℤ) → nat_abs x ≤ 2 ^ 68 → to_z w128 (of_z w128 x) ≡ x
wide_is x near = to_z-of_z w128 x (fits_signed_from_abs _ x (omega arith))

pub sum_fits : (x y : ℤ) → nat_abs x ≤ 2 ^ 68 → nat_abs y ≤ 2 ^ 68
    → FitsSigned w128 (to_z w128 (of_z w128 x) +ℤ to_z w128 (of_z w128 y))
sum_fits x y near_x near_y = grind (arith, wide_is, fits_signed_from_abs, sum_near)

pub sum_is : (x y : ℤ) → nat_abs x ≤ 2 ^ 68 → nat_abs y ≤ 2 ^ 68
    → to_z w128 (of_z w128 (to_z w128 (of_z w128 x) +ℤ to_z w128 (of_z w128 y))) ≡ x +ℤ y
sum_is x y near_x near_y = grind (arith, to_z-of_z, sum_fits, wide_is)
