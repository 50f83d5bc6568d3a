-- The tables of powers, by computing.
use Rattle.std.proofs.Common.{rules, ◌≡◌, ◌≤◌, ◌<◌, ◌^◌, ℕ, zero, suc, ◌+◌, ◌*◌, refl, arith, Bool, true, false, ◌&&◌, List, [], ◌∷◌, Some, slice_get, slice_index_or, nat_le, nat_lt, leb-true, ltb-true, subst, sym, ap, ◌∙◌}
use Rattle.std.proofs.Math.Nat.{pow-succ', pow-zero}
use Rattle.std.proofs.lemmas.Nat.{pow-add, mul-pow}
use Rattle.olr_confidence.specs.Power.{IsFloorOfPower, AreFloors}
use Rattle.olr_confidence.specs.declared.powers.TheConstants.{SIXTEENTHS, FINER, FINEST}

left_of : (x y : Bool) → (x && y) ≡ true → x ≡ true
left_of true y both = refl
left_of false y both = both

right_of : (x y : Bool) → (x && y) ≡ true → y ≡ true
right_of true y both = both
right_of false y both = grind (rules)

-- the square of a number, so many times
abbrev squared : ℕ → ℕ → ℕ
squared zero number = number
squared (suc times) number = squared times (number * number)

squared_is : (times number : ℕ) → squared times number ≡ number ^ 2 ^ times
squared_is zero number = grind (arith, pow-succ', pow-zero)
squared_is (suc times) number = squared_is times (number * number) ∙ mul-pow number number (2 ^ times)
    ∙ sym (pow-add number (2 ^ times) (2 ^ times)) ∙ ap (λ exponent. number ^ exponent) (grind (arith))

-- the number is a power rounded down, as a test: of 2 to the power of `times` parts
abbrev is_floor : ℕ → ℕ → ℕ → Bool
is_floor times at number = nat_le (squared times number * 2 ^ at) (squared times 2147483648)
    && nat_lt (squared times 2147483648) (squared times (number + 1) * 2 ^ at)

-- so are all numbers of a list, the first of which has this exponent
abbrev are_floors : ℕ → ℕ → List ℕ → Bool
are_floors times at [] = true
are_floors times at (number ∷ rest) = is_floor times at number && are_floors times (at + 1) rest

at_most_by : (a b c d e : ℕ) → a ≡ c → b ≡ d → a * e ≤ b → c * e ≤ d
at_most_by a b c d e same also le = grind (arith, same, also, le)

below_by : (a b c d e : ℕ) → a ≡ c → b ≡ d → b < a * e → d < c * e
below_by a b c d e same also lt = grind (arith, same, also, lt)

floor_of : (times at number : ℕ) → is_floor times at number ≡ true
    → IsFloorOfPower (2 ^ times) at number
floor_of times at number is = record {
  at_most = at_most_by (squared times number) (squared times 2147483648) (number ^ 2 ^ times)
      (2147483648 ^ 2 ^ times) (2 ^ at) (squared_is times number) (squared_is times 2147483648)
      (leb-true _ _ (left_of _ _ is));
  next = below_by (squared times (number + 1)) (squared times 2147483648)
      ((number + 1) ^ 2 ^ times) (2147483648 ^ 2 ^ times) (2 ^ at)
      (squared_is times (number + 1)) (squared_is times 2147483648)
      (ltb-true _ _ (right_of _ _ is));
}

moved : (parts at sum first number : ℕ) → first ≡ number → at ≡ sum
    → IsFloorOfPower parts at first → IsFloorOfPower parts sum number
moved parts at sum first number same exponent floor =
    subst (λ one. IsFloorOfPower parts sum one) same
    (subst (λ one. IsFloorOfPower parts one first) exponent floor)

-- so is each number of a list whose first one has this exponent
floors_from : (times at : ℕ) (table : List ℕ) → are_floors times at table ≡ true
    → (index number sum : ℕ) → slice_get table index ≡ Some number → at + index ≡ sum
    → IsFloorOfPower (2 ^ times) sum number
floors_from times at [] all index number sum there is = grind (rules)
floors_from times at (first ∷ rest) all zero number sum there is =
    moved (2 ^ times) at sum first number (grind (rules, there)) (grind (arith, is))
    (floor_of times at first (left_of _ _ all))
floors_from times at (first ∷ rest) all (suc index) number sum there is =
    floors_from times (at + 1) rest (right_of _ _ all) index number sum there (grind (arith, is))

pub sixteenths_are_floors : AreFloors 16 SIXTEENTHS
sixteenths_are_floors = record {
  count = refl;
  each = λ at number there. floors_from 4 0 SIXTEENTHS refl at number at there (grind (arith));
}

pub finer_are_floors : AreFloors 256 FINER
finer_are_floors = record {
  count = refl;
  each = λ at number there. floors_from 8 0 FINER refl at number at there (grind (arith));
}

pub finest_are_floors : AreFloors 4096 FINEST
finest_are_floors = record {
  count = refl;
  each = λ at number there. floors_from 12 0 FINEST refl at number at there (grind (arith));
}

-- ---- none is above 2^31

abbrev are_at_most : List ℕ → Bool
are_at_most [] = true
are_at_most (number ∷ rest) = nat_le number 2147483648 && are_at_most rest

index_at_most : (table : List ℕ) → are_at_most table ≡ true → (at : ℕ)
    → slice_index_or table at 0 ≤ 2147483648
index_at_most [] all at = omega arith
index_at_most (number ∷ rest) all zero = leb-true _ _ (left_of _ _ all)
index_at_most (number ∷ rest) all (suc at) = index_at_most rest (right_of _ _ all) at

pub sixteenth_at_most : (at : ℕ) → slice_index_or SIXTEENTHS at 0 ≤ 2147483648
sixteenth_at_most at = index_at_most SIXTEENTHS refl at

pub finer_at_most : (at : ℕ) → slice_index_or FINER at 0 ≤ 2147483648
finer_at_most at = index_at_most FINER refl at

pub finest_at_most : (at : ℕ) → slice_index_or FINEST at 0 ≤ 2147483648
finest_at_most at = index_at_most FINEST refl at
