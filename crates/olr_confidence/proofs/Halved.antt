-- The product of two powers, rounded down.
use Rattle.std.proofs.Common.{◌≡◌, ◌≤◌, ◌<◌, ◌^◌, ℕ, ◌*◌, ◌/◌, arith}
use Rattle.std.proofs.Math.Nat.{div-eq_of_lt}
use Rattle.std.proofs.Math.Pow.{pow_mono}

product_at_most : (a b : ℕ) → a ≤ 2147483648 → b ≤ 2147483648 → a * b ≤ 4611686018427387904
product_at_most a b small also = grind (arith)

-- a product of two numbers of at most 2^31, over 2^31, is no greater
pub halved_at_most : (a b : ℕ) → a ≤ 2147483648 → b ≤ 2147483648 → a * b / 2147483648 ≤ 2147483648
halved_at_most a b small also = grind (arith, product_at_most)

-- so many halvings leave nothing of at most 2^31
pub halved_away : (a halvings : ℕ) → a ≤ 2147483648 → 32 ≤ halvings → a / 2 ^ halvings ≡ 0
halved_away a halvings small many = div-eq_of_lt (below small (pow_mono many))
  where
    below : a ≤ 2147483648 → 2 ^ 32 ≤ 2 ^ halvings → a < 2 ^ halvings
    below low high = omega arith
