-- Whole numbers by their absolute value.
use Rattle.std.specs.Prelude.{ℕ, ℤ, pos, neg_ℤ, ◌≤ℤ◌}

-- at most `most` in absolute value: from -`most` to `most`
abbrev pub IsAmount : ℕ → ℤ → Type 0
IsAmount most z = (neg_ℤ (pos most) ≤ℤ z) × (z ≤ℤ pos most)
