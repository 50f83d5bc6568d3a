-- Unequal places are unequal spots.
use Rattle.olr_metric.proofs.Common.{◌≡◌, ℕ, zero, suc, ◌+◌, ◌-◌, ◌*◌, ◌/◌, ◌<◌, ◌≤◌, arith, ℤ, pos, negsuc, ◌-ℤ◌, ◌*ℤ◌, ap, nat_abs, neg_ℤ, pos-ne-negsuc, ints, mul-le, le-div, div-add-mod', mod_below, floor, scale_of, spot_of, IsLatitude, neither_less}
use Rattle.olr_base.specs.Coordinates.{Coordinates}

scale_at_least : (lat : ℤ) → IsLatitude lat → 1752 ≤ scale_of lat
scale_at_least lat is = grind (arith, ints, mul-le, le-div)

pos_is : {a b : ℕ} → pos a ≡ pos b → a ≡ b
pos_is same = ap nat_abs same

negsuc_is : {a b : ℕ} → negsuc a ≡ negsuc b → a ≡ b
negsuc_is {a = a} {b = b} same = let abs = ap nat_abs same in omega arith

-- multiples of f by different numbers are different by f at least
apart : (a b f : ℕ) → a < b → a * f + f ≤ b * f
apart a b f less = omega (arith, mul-le (a + 1) f b f (omega arith) (omega arith))

-- numbers that are d apart at least have different quotients by d
one_part : (m n d : ℕ) → 0 < d → m + d ≤ n → m / d ≡ n / d → ⊥
one_part m n d some far same = grind (arith, div-add-mod', mod_below)

one_multiple : (a b f d : ℕ) → 0 < d → d ≤ f → a * f / d ≡ b * f / d → a ≡ b
one_multiple a b f d some long same = grind (arith, neither_less, one_part, apart)

further_below : (a b f d : ℕ) → 0 < d → d ≤ f → a < b → suc a * f - 1 + d ≤ suc b * f - 1
further_below a b f d some long less = grind (arith, apart)

one_multiple_below : (a b f d : ℕ) → 0 < d → d ≤ f → (suc a * f - 1) / d ≡ (suc b * f - 1) / d
    → a ≡ b
one_multiple_below a b f d some long same = grind (arith, neither_less, one_part, further_below)

negative : (m d : ℕ) → 0 < m → floor (neg_ℤ (pos m)) d ≡ negsuc ((m - 1) / d)
negative zero d some = absurd (omega arith)
negative (suc m) d some = ap (λ k. negsuc (k / d)) (omega arith)

below : (a f d : ℕ) → 0 < d → d ≤ f → floor (negsuc a *ℤ pos f) d ≡ negsuc ((suc a * f - 1) / d)
below a f d some long = negative (suc a * f) d (omega (arith, apart 0 (suc a) f (omega arith)))

same_part : (u v : ℤ) (f d : ℕ) → 0 < d → d ≤ f → floor (u *ℤ pos f) d ≡ floor (v *ℤ pos f) d
    → u ≡ v
same_part (pos a) (pos b) f d some long same = ap pos (one_multiple a b f d some long (pos_is same))
same_part (pos a) (negsuc b) f d some long same = grind (arith, pos-ne-negsuc, below)
same_part (negsuc a) (pos b) f d some long same = grind (arith, pos-ne-negsuc, below)
same_part (negsuc a) (negsuc b) f d some long same =
    grind (arith, one_multiple_below, negsuc_is, below)

same_displacement : {a b : ℤ} (o : ℤ) → a -ℤ o ≡ b -ℤ o → a ≡ b
same_displacement o same = omega (arith, ints)

pub one_place : (origin a b : Coordinates) → IsLatitude origin.lat
    → spot_of origin a ≡ spot_of origin b → a ≡ b
one_place origin a b is same =
    let lon = same_displacement _
    (same_part _ _ _ _ (omega arith) (omega (arith, scale_at_least _ is)) (ap (λ s. s.x) same)) in
    let lat = same_displacement _ (same_part _ _ _ _ (omega arith) (omega arith)
    (ap (λ s. s.y) same)) in
    λ i. record { lon = lon i; lat = lat i }
