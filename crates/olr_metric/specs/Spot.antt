-- Spots of the plane and their distances, in centimetres.
use Rattle.std.specs.Prelude.{ℕ, ℤ, ◌+◌, ◌*◌, ◌^◌, ◌≤◌, ◌-ℤ◌, nat_abs}
use Rattle.olr_metric.specs.declared.spot.Spot.{Spot}
use Rattle.olr_metric.specs.Root.{root}

-- the square of a whole number
abbrev pub square : ℤ → ℕ
square z = nat_abs z * nat_abs z

-- the length of the straight line between two spots, rounded down
abbrev pub distance : Spot → Spot → ℕ
distance a b = root (square (a.x -ℤ b.x) + square (a.y -ℤ b.y))

-- within the part of the plane that calls measure in: about 86,000 kilometres to each side of the
-- origin
pub record IsInPlane (spot : Spot) : Type 0 where
  pub x : nat_abs spot.x ≤ 2 ^ 33
  pub y : nat_abs spot.y ≤ 2 ^ 33
