-- Each direction lies in one sector.
use Rattle.olr_metric.proofs.Common.{◌≡◌, ◌≢◌, ℕ, zero, suc, ◌+◌, ◌%◌, ◌*◌, ◌<◌, arith, ℤ, pos, negsuc, neg_ℤ, ◌≤ℤ◌, ◌<ℤ◌, refl, sym, nat_abs, ints, Direction, zero_direction, towards, cross, turned, turns, ray, ray_to, IsSector}
use Rattle.olr_metric.proofs.BearingTurns.{sector_turned, turned_round}
use Rattle.olr_metric.proofs.BearingQuarter.{some_in_quarter, one_in_quarter}

-- A direction is so many quarter turns clockwise of one that goes from north (included) to east
-- (excluded).
pub record Quarter (d : Direction) : Type 0 where
  pub turn : ℕ
  pub a : ℕ
  pub b : ℕ
  pub up : 0 < b
  pub is : d ≡ turns turn (ray_to a b)

quarter : (east north : ℤ) → let d : Direction = record { east = east; north = north } in
    d ≢ zero_direction → Quarter d
quarter (pos a) (pos (suc b)) some =
    record { turn = 0; a = a; b = suc b; up = omega arith; is = refl }
quarter (pos zero) (pos zero) some = absurd (some refl)
quarter (pos (suc b)) (pos zero) some =
    record { turn = 1; a = 0; b = suc b; up = omega arith; is = refl }
quarter (pos (suc b)) (negsuc a) some =
    record { turn = 1; a = suc a; b = suc b; up = omega arith; is = refl }
quarter (pos zero) (negsuc b) some =
    record { turn = 2; a = 0; b = suc b; up = omega arith; is = refl }
quarter (negsuc a) (negsuc b) some =
    record { turn = 2; a = suc a; b = suc b; up = omega arith; is = refl }
quarter (negsuc b) (pos zero) some =
    record { turn = 3; a = 0; b = suc b; up = omega arith; is = refl }
quarter (negsuc b) (pos (suc a)) some =
    record { turn = 3; a = suc a; b = suc b; up = omega arith; is = refl }

-- what turns lead to lies in a sector
some_turned : (k : ℕ) (d : Direction) → (s : ℕ) × IsSector d s → (s : ℕ) × IsSector (turns k d) s
some_turned zero d some = some
some_turned (suc k) d some =
    let here = some_turned k d some in
    ((here.0 + 8) % 32, sector_turned _ _ here.1)

pub some_sector : (d : Direction) → d ≢ zero_direction → (s : ℕ) × IsSector d s
some_sector d there =
    let q = quarter _ _ there in
    rw (sym q.is) at (some_turned q.turn _ (some_in_quarter q.a _ q.up))

-- a direction lies in one sector at most
IsInOne : Direction → Type 0
IsInOne d = (s t : ℕ) → IsSector d s → IsSector d t → s ≡ t

turned_on : {d : Direction} (s : ℕ) → IsSector (turned d) s
    → IsSector d ((((s + 8) % 32 + 8) % 32 + 8) % 32)
turned_on {d} s is =
    rw (← turned_round d) (sector_turned _ _ (sector_turned _ _ (sector_turned _ s is)))

one_turned : (k : ℕ) (d : Direction) → IsInOne d → IsInOne (turns k d)
unfolding IsInOne
one_turned zero d one = one
one_turned (suc k) d one = λ s t is_s is_t.
    let same = one_turned k d one _ _ (turned_on s is_s) (turned_on t is_t) in
    omega arith

one_of_quarter : (d : Direction) → Quarter d → IsInOne d
unfolding IsInOne
one_of_quarter d q = grind (arith, one_turned, one_in_quarter)

-- the zero direction lies in none
none_of : (r : Direction) → pos 0 <ℤ cross r zero_direction → ⊥
none_of r ends = omega (arith, ints)

pub no_sector : (s : ℕ) → IsSector zero_direction s → ⊥
no_sector s is = none_of (ray (s + 1)) is.ends

pub one_sector : (d : Direction) (s t : ℕ) → IsSector d s → IsSector d t → s ≡ t
unfolding IsInOne
one_sector d s t is_s is_t = one_of_quarter d
    (quarter _ _ (λ same. no_sector s (rw same at is_s))) s t is_s is_t

-- The sector of a direction by that of the direction of the first quarter that it is turned back
-- to. In each it goes so far along the axes.
turned_by : (k : ℕ) (e : Direction) (s : ℕ) → k < 4 → s < 8 → IsSector e s
    → IsSector (turns k e) (8 * k + s)
turned_by zero e s few first is = let same : 8 * 0 + s ≡ s = omega arith in rw same is
turned_by (suc k) e s few first is =
    let further : 8 * suc k + s ≡ ((8 * k + s) + 8) % 32 = omega arith in
    rw further (sector_turned (turns k e) (8 * k + s) (turned_by k e s (omega arith) first is))

pub from_east : {east north : ℤ} {x y s : ℕ} → pos 0 <ℤ east → north ≤ℤ pos 0 → x ≡ nat_abs east
    → y ≡ nat_abs north → s < 8 → IsSector (ray_to y x) s → IsSector (towards east north) (8 + s)
from_east {east} {north} {x} {y} some none x_is y_is first is =
    let east_is : east ≡ pos x = omega (arith, ints) in
    let north_is : north ≡ neg_ℤ (pos y) = omega (arith, ints) in
    rw (east_is, north_is) (turned_by 1 _ _ (omega arith) first is)

pub from_south : {east north : ℤ} {x y s : ℕ} → east ≤ℤ pos 0 → north <ℤ pos 0 → x ≡ nat_abs east
    → y ≡ nat_abs north → s < 8 → IsSector (ray_to x y) s → IsSector (towards east north) (16 + s)
from_south {east} {north} {x} {y} none some x_is y_is first is =
    let east_is : east ≡ neg_ℤ (pos x) = omega (arith, ints) in
    let north_is : north ≡ neg_ℤ (pos y) = omega (arith, ints) in
    rw (east_is, north_is) (turned_by 2 _ _ (omega arith) first is)

pub from_west : {east north : ℤ} {x y s : ℕ} → east <ℤ pos 0 → pos 0 ≤ℤ north → x ≡ nat_abs east
    → y ≡ nat_abs north → s < 8 → IsSector (ray_to y x) s → IsSector (towards east north) (24 + s)
from_west {east} {north} {x} {y} some none x_is y_is first is =
    let east_is : east ≡ neg_ℤ (pos x) = omega (arith, ints) in
    let north_is : north ≡ neg_ℤ (neg_ℤ (pos y)) = omega (arith, ints) in
    rw (east_is, north_is) (turned_by 3 _ _ (omega arith) first is)
