-- Division rounded down.
use Rattle.olr_metric.proofs.Common.{◌≡◌, ℕ, suc, ◌*◌, ◌<◌, ◌≤◌, arith, ℤ, pos, negsuc, ◌*ℤ◌, ◌^◌, to_z, of_z, w64, FitsSigned, nat_abs, w128, unsigned_abs-mul, fits_signed_from_abs, to_z-of_z, div_below, mul-le, floor}

-- a quotient of what is at most m times the divisor is at most m, in amount
pub floor_near : (z : ℤ) (d m : ℕ) → 0 < d → nat_abs z ≤ m * d → nat_abs (floor z d) ≤ m
floor_near (pos a) d m positive near = omega (arith, div_below a d (suc m) positive (omega arith))
floor_near (negsuc a) d m positive near = omega (arith, div_below a d m positive (omega arith))

-- the same of a product
pub floor_product_near : (z : ℤ) (n d m : ℕ) → 0 < d → nat_abs z * n ≤ m * d
    → nat_abs (floor (z *ℤ pos n) d) ≤ m
floor_product_near z n d m positive near = grind (arith, floor_near, unsigned_abs-mul)

-- a part of a displacement is no longer than the whole
pub share_near : (d : ℤ) (part whole : ℕ) → part ≤ whole → 0 < whole
    → nat_abs (floor (d *ℤ pos part) whole) ≤ nat_abs d
share_near d part whole within positive = grind (arith, floor_product_near, mul-le)

-- that part as the code has it, in a wider type
pub share_at_most : (d : ℤ) {part whole : ℕ} (r : ℤ) → r ≡ floor (d *ℤ pos part) whole
    → nat_abs d ≤ 2 ^ 34 → part ≤ whole → 0 < whole → nat_abs r ≤ 2 ^ 34
share_at_most d r same at_most within positive = grind (arith, share_near)

pub small_is_wide : {r : ℤ} → nat_abs r ≤ 2 ^ 34 → to_z w128 (of_z w128 r) ≡ r
small_is_wide {r} at_most = to_z-of_z w128 r (fits_signed_from_abs _ r (omega arith))

pub small_is : (r : ℤ) → nat_abs r ≤ 2 ^ 34 → to_z w64 (of_z w64 r) ≡ r
small_is r at_most = to_z-of_z w64 r (fits_signed_from_abs _ r (omega arith))

pub small_fits : {r : ℤ} → nat_abs r ≤ 2 ^ 34 → FitsSigned w64 r
small_fits {r} at_most = fits_signed_from_abs _ r (omega arith)
