-- Division of whole numbers, rounded down.
use Rattle.std.specs.Prelude.{ℕ, ℤ, pos}
use Rattle.std.specs.Int.{int_div_euclid}

-- a / b for b greater than 0, rounded towards minus infinity
abbrev pub floor : ℤ → ℕ → ℤ
floor a b = int_div_euclid a (pos b)
