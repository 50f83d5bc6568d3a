-- A straight segment between two spots, and the foot of another spot on it.
use Rattle.std.specs.Prelude.{ℕ, ℤ, pos, ◌+ℤ◌, ◌-ℤ◌, ◌*ℤ◌, ◌≤ℤ◌, cond, int_le, nat_abs}
use Rattle.olr_metric.specs.declared.spot.Spot.{Spot}
use Rattle.olr_metric.specs.Floor.{floor}

-- the number at s / e of the distance from a to b, rounded down
abbrev pub between : ℤ → ℤ → ℕ → ℕ → ℤ
between a b s e = a +ℤ floor ((b -ℤ a) *ℤ pos s) e

-- x is one of the numbers from a to b, whichever of them is the greater
abbrev pub IsBetween : ℤ → ℤ → ℤ → Type 0
IsBetween a b x = (a ≤ℤ b → (a ≤ℤ x) × (x ≤ℤ b)) × (b ≤ℤ a → (b ≤ℤ x) × (x ≤ℤ a))

-- the spot at s / e of the segment from a to b, each coordinate rounded down
abbrev pub spot_between : Spot → Spot → ℕ → ℕ → Spot
spot_between a b s e = record { x = between a.x b.x s e; y = between a.y b.y s e }

-- the dot product of the displacements from a to p and from a to b
abbrev pub dot_product : Spot → Spot → Spot → ℤ
dot_product a p b = (p.x -ℤ a.x) *ℤ (b.x -ℤ a.x) +ℤ (p.y -ℤ a.y) *ℤ (b.y -ℤ a.y)

-- The foot of p on the segment from a to b: where the perpendicular from p meets it, each
-- coordinate rounded down, or the nearer end where the perpendicular meets the line beyond that
-- end.
abbrev pub foot : Spot → Spot → Spot → Spot
foot p a b =
    cond (int_le (dot_product a p b) (pos 0)) a
    (cond (int_le (dot_product a b b) (dot_product a p b)) b
    (spot_between a b (nat_abs (dot_product a p b)) (nat_abs (dot_product a b b))))
