-- Where feet lie.
use Rattle.olr_metric.proofs.Common.{◌≡◌, ℕ, ◌<◌, ◌≤◌, arith, ℤ, pos, false, nat_abs, int_le, cond_both, ints, Spot, between, spot_between, dot_product, foot, IsBetween}
use Rattle.olr_metric.proofs.Betweens.{lies_between}

at_start : {a b : ℤ} → IsBetween a b a
at_start = (λ le. (omega (arith, ints), le), λ ge. (ge, omega (arith, ints)))

at_end : {a b : ℤ} → IsBetween a b b
at_end {a} = (λ le. (le, omega (arith, ints)), λ ge. (omega (arith, ints), ge))

-- the cut of a segment is one of parts of a whole
parts : (u v : ℤ) → int_le u (pos 0) ≡ false → int_le v u ≡ false → (nat_abs u ≤ nat_abs v)
    × (0 < nat_abs v)
parts u v above below = (grind (arith, ints), grind (arith, ints))

pub foot_between : (axis : Spot → ℤ)
    → ((a b : Spot) (s e : ℕ) → axis (spot_between a b s e) ≡ between (axis a) (axis b) s e)
    → (p a b : Spot) → IsBetween (axis a) (axis b) (axis (foot p a b))
foot_between axis axis_is p a b =
    cond_both (int_le (dot_product a p b) (pos 0)) a _ (λ s. IsBetween (axis a) (axis b) (axis s))
    (λ before. at_start)
    (λ above. cond_both (int_le (dot_product a b b) (dot_product a p b)) b _
    (λ s. IsBetween (axis a) (axis b) (axis s)) (λ behind. at_end)
    (λ below. let is = parts (dot_product a p b) (dot_product a b b) above below in
    rw (axis_is a b (nat_abs (dot_product a p b)) (nat_abs (dot_product a b b)))
    (lies_between _ _ is.0 is.1)))
