-- The distance of spots.
use Rattle.olr_metric.proofs.Common.{◌≡◌, ◌≢◌, ℕ, zero, suc, ◌*◌, ◌<◌, arith, ℤ, ◌-ℤ◌, refl, nat_abs, ints, cases_eq, Spot, root, root_within, distance}
use Rattle.olr_metric.proofs.Roots.{root_is}

pub same_spot : (a b : Spot) → a.x ≡ b.x → a.y ≡ b.y → a ≡ b
same_spot a b x y = λ i. record { x = x i; y = y i }

zero_square : (n : ℕ) → n * n ≡ 0 → n ≡ 0
zero_square zero none = refl
zero_square (suc n) none = absurd (omega arith)

zero_root : (n : ℕ) → root n ≡ 0 → n ≡ 0
zero_root n none =
    let below = rw none at ((root_is n).next) in
    omega arith

same_number : {x y : ℤ} → nat_abs (x -ℤ y) ≡ 0 → x ≡ y
same_number none = omega (arith, ints)

turned_number : (x y : ℤ) → nat_abs (x -ℤ y) ≡ nat_abs (y -ℤ x)
turned_number x y = omega (arith, ints)

-- only a spot itself is at distance 0
pub distance_zero : (a b : Spot) → distance a b ≡ 0 → a ≡ b
distance_zero a b none = grind (arith, zero_root, same_spot, same_number, zero_square)

no_displacement : (x : ℤ) → nat_abs (x -ℤ x) ≡ 0
no_displacement x = omega (arith, ints)

pub distance_self : (a : Spot) → distance a a ≡ 0
unfolding root_within
distance_self a = rw (no_displacement _, no_displacement _) refl

-- it is the same from both ends
pub distance_turned : (a b : Spot) → distance a b ≡ distance b a
distance_turned a b = rw (turned_number _ _, turned_number a.y b.y) refl

pub distance_positive : (a b : Spot) → a ≢ b → 0 < distance a b
distance_positive a b apart = grind (arith, cases_eq, distance_zero)
