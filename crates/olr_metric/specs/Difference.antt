-- The difference of two sectors.
use Rattle.std.specs.Prelude.{ℕ, ◌-◌, min, Option, None, Some}
use Rattle.std.specs.Int.{abs_diff}

-- The number of sectors from one to another, the shorter way round. Where there is no sector it is
-- the greatest difference, half a turn.
abbrev pub difference : Option ℕ → ℕ → ℕ
difference None b = 16
difference (Some a) b = min (abs_diff a b) (32 - abs_diff a b)
