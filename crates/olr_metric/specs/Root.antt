-- The square root, rounded down.
use Rattle.std.specs.Prelude.{ℕ, zero, suc, ◌*◌, ◌+◌, ◌<◌, ◌≤◌, cond, nat_le}

-- of the numbers from 0 to k, the greatest whose square is at most n
unfoldable pub root_within : ℕ → ℕ → ℕ
root_within n zero = zero
root_within n (suc k) = cond (nat_le (suc k * suc k) n) (suc k) (root_within n k)

-- the greatest number whose square is at most n
abbrev pub root : ℕ → ℕ
root n = root_within n n

-- the square of r is at most n, and that of the next number is greater
pub record IsRoot (n r : ℕ) : Type 0 where
  pub square : r * r ≤ n
  pub next : n < (r + 1) * (r + 1)
