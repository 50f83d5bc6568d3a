-- What lies between two numbers.
use Rattle.olr_metric.proofs.Common.{◌≡◌, ℕ, zero, suc, ◌/◌, ◌^◌, ◌<◌, ◌≤◌, arith, ℤ, pos, negsuc, ◌+ℤ◌, ◌-ℤ◌, ◌*ℤ◌, ◌≤ℤ◌, to_z, of_z, w64, refl, nat_abs, neg_ℤ, ints, by_lt_z, floor, between, IsBetween}
use Rattle.olr_metric.proofs.Floors.{share_near, share_at_most, small_is}

step_up : (a b f : ℤ) (n : ℕ) → b -ℤ a ≡ pos n → nat_abs f ≤ n → pos 0 ≤ℤ f → IsBetween a b (a +ℤ f)
step_up a b f n up near positive = grind (arith, ints)

step_down : (a b f : ℤ) (n : ℕ) → b -ℤ a ≡ negsuc n → nat_abs f ≤ suc n → f ≤ℤ pos 0
    → IsBetween a b (a +ℤ f)
step_down a b f n down near negative = grind (arith, ints)

floor_of_positive : (m d : ℕ) → pos 0 ≤ℤ floor (pos m) d
floor_of_positive m d = omega (arith, ints)

floor_of_negative : (m d : ℕ) → 0 < d → floor (neg_ℤ (pos m)) d ≤ℤ pos 0
floor_of_negative zero d some = let none : 0 / d ≡ 0 = omega arith in rw none _
floor_of_negative (suc m) d some = omega arith

lies : (a b d : ℤ) (part whole : ℕ) → b -ℤ a ≡ d → part ≤ whole → 0 < whole
    → IsBetween a b (a +ℤ floor (d *ℤ pos part) whole)
lies a b (pos n) part whole is within some = step_up a b _ n is (share_near (pos n) _ _ within some)
    (floor_of_positive _ _)
lies a b (negsuc n) part whole is within some = step_down a b _ n is
    (share_near (negsuc n) _ _ within some) (floor_of_negative _ _ some)

-- what lies between two numbers is from the one to the other
pub lies_between : (a b : ℤ) {part whole : ℕ} → part ≤ whole → 0 < whole
    → IsBetween a b (between a b part whole)
lies_between a b {part} {whole} within some = lies a b _ _ _ refl within some

near_up : (a b x : ℤ) (m : ℕ) → nat_abs a ≤ m → nat_abs b ≤ m → (a ≤ℤ x) × (x ≤ℤ b) → nat_abs x ≤ m
near_up a b x m near_a near_b lies = omega (arith, ints)

lies_near : (a b x : ℤ) (m : ℕ) → nat_abs a ≤ m → nat_abs b ≤ m → IsBetween a b x → nat_abs x ≤ m
lies_near a b x m near_a near_b lies = grind (arith, by_lt_z, near_up, ints)

pub between_near : (a b : ℤ) (part whole m : ℕ) → nat_abs a ≤ m → nat_abs b ≤ m → part ≤ whole
    → 0 < whole → nat_abs (between a b part whole) ≤ m
between_near a b part whole m near_a near_b within some =
    lies_near a b _ m near_a near_b (lies_between a b within some)

-- the sum as the code has it
pub between_is : (a b d share : ℤ) (part whole : ℕ) → d ≡ b -ℤ a
    → share ≡ floor (to_z w64 (of_z w64 d) *ℤ pos part) whole
    → nat_abs a ≤ 2 ^ 33 → nat_abs d ≤ 2 ^ 34 → part ≤ whole → 0 < whole
    → to_z w64 (of_z w64 a) +ℤ to_z w64 (of_z w64 share) ≡ between a b part whole
between_is a b d share part whole is_d is_share small_a small_d within some =
    grind (arith, small_is, share_at_most)
