-- Amounts in the plane of a reference.
use Rattle.olr_metric.proofs.Common.{ℕ, ◌*◌, ◌^◌, ◌≤◌, arith, ℤ, ◌-ℤ◌, nat_abs, ints, mul-le, div_below, IsLongitude, scale_of}

pub scale_at_most : (lat : ℤ) → scale_of lat ≤ 10000
scale_at_most lat = grind (arith, div_below)

lons_apart : (a b : ℤ) → IsLongitude a → IsLongitude b → nat_abs (a -ℤ b) ≤ 360000000
lons_apart a b in_a in_b = omega (arith, ints)

pub east_near : (a b : ℤ) (scale : ℕ) → IsLongitude a → IsLongitude b → scale ≤ 10000
    → nat_abs (a -ℤ b) * (11132 * scale) ≤ 2 ^ 33 * 10000000
east_near a b scale in_a in_b at_most = grind (arith, mul-le, lons_apart)
