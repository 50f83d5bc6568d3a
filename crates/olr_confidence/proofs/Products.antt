-- Products and sums of signed numbers.
use Rattle.std.proofs.Common.{◌≡◌, ◌≤◌, ℕ, ℤ, pos, ◌+◌, ◌*◌, ◌+ℤ◌, ◌*ℤ◌, nat_abs, arith}
use Rattle.std.proofs.lemmas.Int.{ints, unsigned_abs-mul}

both : (a b : ℕ) → a ≤ 4294967296 → b ≤ 1000000 → a * b ≤ 4294967296 * 1000000
both a b small few = grind (arith)

pub product_at_most : (weight : ℤ) (units : ℕ) (product : ℤ) → nat_abs weight ≤ 4294967296
    → units ≤ 1000000 → product ≡ weight *ℤ pos units → nat_abs product ≤ 4294967296 * 1000000
product_at_most weight units product small few is =
    rw (is, unsigned_abs-mul weight (pos units)) (both (nat_abs weight) units small few)

triangle : (one other : ℤ) → nat_abs (one +ℤ other) ≤ nat_abs one + nat_abs other
triangle one other = grind (arith, ints)

pub sum_at_most : (one other sum : ℤ) → sum ≡ one +ℤ other
    → nat_abs sum ≤ nat_abs one + nat_abs other
sum_at_most one other sum is = rw (is) (triangle one other)
