-- The whole square root.
use Rattle.olr_metric.proofs.Common.{◌≡◌, ℕ, zero, suc, ◌+◌, ◌*◌, ◌<◌, ◌≤◌, min, nat_le, inl, inr, arith, refl, cond_both, leb-true, leb-false, cases_lt, mul-le, root, root_within, IsRoot, neither_less}

-- its square is small enough
within_square : (n k : ℕ) → root_within n k * root_within n k ≤ n
unfolding root_within
within_square n zero = omega arith
within_square n (suc k) = grind (arith, cond_both, nat_le, leb-true, within_square n k)

-- and each greater one up to k is not
within_next : (n k j : ℕ) → root_within n k < j → j ≤ k → n < j * j
unfolding root_within
within_next n zero j = λ above below. absurd (omega arith)
within_next n (suc k) j = cond_both (nat_le (suc k * suc k) n) (suc k) (root_within n k) (λ r. r < j
    → j ≤ suc k → n < j * j) (λ small above below. absurd (omega arith))
    (λ big above below. elim (cases_lt j (suc k)) [
      | inl under ↦ within_next n k j above (omega arith)
      | inr over ↦ let same : j ≡ suc k = omega arith in rw same (leb-false (suc k * suc k) n big)
    ])

within_at_most : (n k : ℕ) → root_within n k ≤ k
unfolding root_within
within_at_most n zero = omega arith
within_at_most n (suc k) = grind (arith, cond_both, nat_le, within_at_most n k)

-- a number is less than the square of the next one
less_than_next : (n : ℕ) → n < (n + 1) * (n + 1)
less_than_next n = omega (arith, mul-le 1 (n + 1) (n + 1) (n + 1))

next_square : (n r : ℕ) → r ≡ root n → n < (r + 1) * (r + 1)
next_square n r same = grind (arith, cases_lt, within_next, within_at_most, less_than_next)

pub root_is : (n : ℕ) → IsRoot n (root n)
root_is n = record { square = within_square n n; next = next_square n _ refl }

-- a number has one root
no_less_root : (n a b : ℕ) → n < (a + 1) * (a + 1) → b * b ≤ n → a < b → ⊥
no_less_root n a b high low less = grind (arith, mul-le)

pub one_root : (n a b : ℕ) → a * a ≤ n → n < (a + 1) * (a + 1) → b * b ≤ n → n < (b + 1) * (b + 1)
    → a ≡ b
one_root n a b low_a high_a low_b high_b = grind (arith, neither_less, no_less_root)

-- what has the square and the next square of the root is the root
pub is_root : (n r : ℕ) → r * r ≤ n → n < (r + 1) * (r + 1) → r ≡ root n
is_root n r low high = one_root n r _ low high (root_is n).square (root_is n).next

-- a number below a square has a root below its side
pub root_below : (n r k : ℕ) → r * r ≤ n → n < k * k → r < k
root_below n r k low high = grind (arith, cases_lt, mul-le)

-- a number whose square is at most n is at most the root of n
pub root_at_least : (n k : ℕ) → k * k ≤ n → k ≤ root n
root_at_least n k low = elim (cases_lt (root n) k) [
  | inl under ↦ absurd
      (omega (
        arith,
        mul-le (root n + 1) (root n + 1) k k (omega arith) (omega arith),
        (root_is n).next,
      ))
  | inr over ↦ over
]

-- and one whose square is greater is greater
pub root_less : (n k : ℕ) → n < k * k → root n < k
root_less n k high = root_below n _ k (root_is n).square high

-- the root of the lesser of two numbers is the lesser of their roots
root_rises : (n m : ℕ) → n ≤ m → root n ≤ root m
root_rises n m le = root_at_least m _ (omega (arith, (root_is n).square))

pub root_min : (n m : ℕ) → root (min n m) ≡ min (root n) (root m)
root_min n m = grind (arith, cases_lt, root_rises)
