-- A distance is at least the difference of the coordinates along either axis.
use Rattle.olr_metric.proofs.Common.{ℕ, ◌+◌, ◌*◌, ◌≤◌, arith, ◌-ℤ◌, inl, inr, nat_abs, cases_lt, mul-le, Spot, root, distance}
use Rattle.olr_metric.proofs.Roots.{root_is}

root_within : (x y : ℕ) → y ≤ root (x * x + y * y)
root_within x y = elim (cases_lt (root (x * x + y * y)) y) [
  | inl less ↦ absurd (omega (
    arith,
    (root_is (x * x + y * y)).next,
    mul-le (root (x * x + y * y) + 1) (root (x * x + y * y) + 1) y y (omega arith) (omega arith),
  ))
  | inr within ↦ within
]

root_beside : (x y : ℕ) → x ≤ root (x * x + y * y)
root_beside x y = elim (cases_lt (root (x * x + y * y)) x) [
  | inl less ↦ absurd (omega (
    arith,
    (root_is (x * x + y * y)).next,
    mul-le (root (x * x + y * y) + 1) (root (x * x + y * y) + 1) x x (omega arith) (omega arith),
  ))
  | inr within ↦ within
]

pub east_within : (a b : Spot) → nat_abs (a.x -ℤ b.x) ≤ distance a b
east_within a b = root_beside _ _

pub north_within : (a b : Spot) → nat_abs (a.y -ℤ b.y) ≤ distance a b
north_within a b = root_within _ _
