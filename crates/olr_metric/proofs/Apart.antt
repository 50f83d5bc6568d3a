-- How far spots of the plane lie apart.
use Rattle.olr_metric.proofs.Common.{ℕ, ◌+◌, ◌*◌, ◌^◌, ◌<◌, ◌≤◌, arith, ℤ, ◌-ℤ◌, nat_abs, ints, mul-le}

-- numbers of at most 2^33 in amount
pub apart : (x y : ℤ) → nat_abs x ≤ 2 ^ 33 → nat_abs y ≤ 2 ^ 33 → nat_abs (x -ℤ y) ≤ 2 ^ 34
apart x y small_x small_y = omega (arith, ints)

-- the sum of two squares
pub squares_below : (x y : ℕ) → x ≤ 2 ^ 34 → y ≤ 2 ^ 34 → x * x + y * y < 2 ^ 70
squares_below x y small_x small_y = grind (arith, mul-le)
