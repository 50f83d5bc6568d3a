-- The directions of the first quarter, from north (included) to east (excluded), and their sectors.
use Rattle.olr_metric.proofs.Common.{◌≡◌, ℕ, zero, suc, ◌+◌, ◌-◌, ◌*◌, ◌/◌, ◌%◌, ◌<◌, ◌≤◌, arith, rules, add-one, pos, neg_ℤ, ◌≤ℤ◌, ◌<ℤ◌, refl, inl, inr, ints, by_lt_z, cases_lt, mul-le, neg_ℤ-neg_ℤ, Direction, cross, turned, ray, ray_to, IsSector, neither_less}
use Rattle.olr_metric.proofs.BearingTurns.{ray_turned, cross_turned, ray_turned_by, negative_times}

-- A ray of the first quarter and the one behind it, which goes no less far east and no further
-- north.
record Step (s : ℕ) : Type 0 where
  x : ℕ
  y : ℕ
  x' : ℕ
  y' : ℕ
  this : ray s ≡ ray_to x y
  next : ray (suc s) ≡ ray_to x' y'
  east : x ≤ x'
  north : y' ≤ y
  up : 0 < y
  clockwise : x * y' < y * x'

step_of : {s x y x' y' : ℕ} → ray s ≡ ray_to x y → ray (suc s) ≡ ray_to x' y' → x ≤ x' → y' ≤ y
    → 0 < y → x * y' < y * x' → Step s
step_of this next east north up clockwise = search rules

step : (s : ℕ) → s < 8 → Step s
unfolding ray
step zero inside = step_of refl refl (omega arith) (omega arith) (omega arith) (omega arith)
step (suc zero) inside = step_of refl refl (omega arith) (omega arith) (omega arith) (omega arith)
step (suc (suc zero)) inside = step_of refl refl (omega arith) (omega arith) (omega arith)
    (omega arith)
step (suc (suc (suc zero))) inside =
    step_of refl refl (omega arith) (omega arith) (omega arith) (omega arith)
step (suc (suc (suc (suc zero)))) inside =
    step_of refl refl (omega arith) (omega arith) (omega arith) (omega arith)
step (suc (suc (suc (suc (suc zero))))) inside =
    step_of refl refl (omega arith) (omega arith) (omega arith) (omega arith)
step (suc (suc (suc (suc (suc (suc zero)))))) inside =
    step_of refl refl (omega arith) (omega arith) (omega arith) (omega arith)
step (suc (suc (suc (suc (suc (suc (suc zero))))))) inside =
    step_of refl refl (omega arith) (omega arith) (omega arith) (omega arith)
step _ inside = absurd (omega arith)

-- each ray lies clockwise of the one before, within half a turn
clockwise_of : (x y x' y' : ℕ) → x * y' < y * x' → cross (ray_to x y) (ray_to x' y') <ℤ pos 0
clockwise_of x y x' y' less = omega (arith, ints)

clockwise_first : (s : ℕ) → s < 8 → cross (ray s) (ray (suc s)) <ℤ pos 0
clockwise_first s inside =
    let it = step s inside in
    rw (it.this, it.next) (clockwise_of _ _ _ _ it.clockwise)

clockwise_behind : (k s : ℕ) → s < 8 → cross (ray (s + 8 * k)) (ray (suc s + 8 * k)) <ℤ pos 0
clockwise_behind zero s inside =
    let here : s + 8 * 0 ≡ s = omega arith in
    let next : suc s + 8 * 0 ≡ suc s = omega arith in
    rw (here, next) (clockwise_first s inside)
clockwise_behind (suc k) s inside =
    let here : s + 8 * suc k ≡ (s + 8 * k) + 8 = omega arith in
    let next : suc s + 8 * suc k ≡ (suc s + 8 * k) + 8 = omega arith in
    rw (here, next, ray_turned _, ray_turned _, cross_turned _ _) (clockwise_behind k s inside)

clockwise_at : (s k r : ℕ) → r < 8 → s ≡ r + 8 * k → cross (ray s) (ray (s + 1)) <ℤ pos 0
clockwise_at s k r inside here =
    let next : s + 1 ≡ suc r + 8 * k = omega arith in
    rw (next, here) (clockwise_behind k r inside)

pub clockwise : (s : ℕ) → cross (ray s) (ray (s + 1)) <ℤ pos 0
clockwise s = clockwise_at s (s / 8) (s % 8) (omega arith) (omega arith)

-- from north to east each ray lies further clockwise of a direction
rises_of : (x y x' y' a b : ℕ) → x ≤ x' → y' ≤ y
    → cross (ray_to x y) (ray_to a b) ≤ℤ cross (ray_to x' y') (ray_to a b)
rises_of x y x' y' a b east north = grind (arith, ints, mul-le)

rises : (s a b : ℕ) → s < 8 → cross (ray s) (ray_to a b) ≤ℤ cross (ray (suc s)) (ray_to a b)
rises s a b inside =
    let it = step s inside in
    rw (it.this, it.next) (rises_of _ _ _ _ a b it.east it.north)

rises_by : (s k a b : ℕ) → s + k ≤ 8
    → cross (ray s) (ray_to a b) ≤ℤ cross (ray (s + k)) (ray_to a b)
rises_by s zero a b inside = let same : s + 0 ≡ s = omega arith in rw same (omega (arith, ints))
rises_by s (suc k) a b inside =
    let next : s + suc k ≡ suc (s + k) = omega arith in
    let before = rises_by s k a b (omega arith) in
    let last = rises (s + k) a b (omega arith) in
    rw next (omega (arith, ints))

-- the rays of the other quarters
cross_second : (x y a b : ℕ) → cross (turned (ray_to x y)) (ray_to a b) ≡ pos (y * b + x * a)
cross_second x y a b = rw (negative_times (pos x) (pos a), neg_ℤ-neg_ℤ (pos (x * a))) refl

cross_third : (r d : Direction) → cross (turned (turned r)) d ≡ neg_ℤ (cross r d)
cross_third r d = rw (negative_times _ _, negative_times _ _) (omega (arith, ints))

in_second : (s a b : ℕ) → s < 8 → 0 < b → pos 0 <ℤ cross (ray (s + 8)) (ray_to a b)
in_second s a b inside up =
    let it = step s inside in
    let some = mul-le 1 1 it.y b it.up up in
    rw (ray_turned s, it.this, cross_second _ _ a b) (omega (arith, ints))

in_third : (s a b : ℕ) → s < 8 → cross (ray (s + 16)) (ray_to a b) ≤ℤ pos 0
    → pos 0 <ℤ cross (ray (suc s + 16)) (ray_to a b) → ⊥
in_third s a b inside begins ends =
    let begins' = rw (ray_turned_by 2 s, cross_third (ray s) (ray_to a b)) at begins in
    let ends' = rw (ray_turned_by 2 (suc s), cross_third (ray (suc s)) (ray_to a b)) at ends in
    let more = rises s a b inside in
    omega (arith, ints)

in_fourth : (s a b : ℕ) → s < 8 → cross (ray (suc s + 24)) (ray_to a b) ≤ℤ pos 0
in_fourth s a b inside =
    let it = step s inside in
    rw (ray_turned_by 3 (suc s), cross_third _ (ray_to a b), it.next, cross_second it.x' it.y' a b)
    (omega (arith, ints))

-- a direction of the first quarter lies in a sector of that quarter
pub in_quarter : (a b s : ℕ) → 0 < b → IsSector (ray_to a b) s → s < 8
in_quarter a b s up is = elim (cases_lt s 8) [
  | inl first ↦ first
  | inr behind ↦ elim (cases_lt s 16) [
    | inl second ↦
        let at : s ≡ (s - 8) + 8 = omega arith in
        let begins = rw at at is.begins in
        absurd (omega (arith, ints, in_second (s - 8) a b (omega arith) up))
    | inr behind ↦ elim (cases_lt s 24) [
      | inl third ↦
          let at : s ≡ (s - 16) + 16 = omega arith in
          let next : s + 1 ≡ suc (s - 16) + 16 = omega arith in
          absurd (in_third (s - 16) a b (omega arith) (rw (← at) is.begins) (rw (← next) is.ends))
      | inr fourth ↦
          let next : s + 1 ≡ suc (s - 24) + 24 = omega arith in
          let ends = rw next at is.ends in
          absurd (omega (arith, ints, in_fourth (s - 24) a b (omega arith), ends))
    ]
  ]
]

-- and not in an earlier one too
no_earlier : (a b s t : ℕ) → t < 8 → s < t → IsSector (ray_to a b) s → IsSector (ray_to a b) t → ⊥
no_earlier a b s t inside earlier is_s is_t =
    let at : t ≡ (s + 1) + (t - (s + 1)) = omega arith in
    let more = rises_by _ _ a b (omega arith) in
    let more' : cross (ray (s + 1)) (ray_to a b) ≤ℤ cross (ray t) (ray_to a b) = rw at more in
    omega (arith, ints)

pub one_in_quarter : (a b s t : ℕ) → 0 < b → IsSector (ray_to a b) s → IsSector (ray_to a b) t
    → s ≡ t
one_in_quarter a b s t up is_s is_t = grind (arith, neither_less, no_earlier, in_quarter)

pub passes_first : (a b : ℕ) → cross (ray 0) (ray_to a b) ≤ℤ pos 0
unfolding ray
passes_first a b = omega (arith, ints)

ahead_of_last : (a b : ℕ) → 0 < b → pos 0 <ℤ cross (ray 8) (ray_to a b)
unfolding ray
ahead_of_last a b up = omega (arith, ints)

-- a direction that has passed the last ray lies in the last sector
pub in_last : (a b s : ℕ) → 0 < b → s ≡ 7 → cross (ray s) (ray_to a b) ≤ℤ pos 0
    → IsSector (ray_to a b) s
in_last a b s up last passed = record {
  in_range = omega arith;
  begins = passed;
  ends = let next : s + 1 ≡ 8 = omega arith in rw next (ahead_of_last a b up);
}

-- a direction lies in a sector that begins before a ray which it hasn't passed
before_ray : (a b k : ℕ) → k ≤ 8 → pos 0 <ℤ cross (ray k) (ray_to a b) → (s : ℕ)
    × IsSector (ray_to a b) s
before_ray a b zero inside ahead = absurd (omega (arith, ints, passes_first a b))
before_ray a b (suc k) inside ahead = by_lt_z _ _ (λ ahead'. before_ray a b k (omega arith) ahead')
    (λ passed. (k, record { in_range = omega arith; begins = passed; ends = rw add-one ahead }))

pub some_in_quarter : (a b : ℕ) → 0 < b → (s : ℕ) × IsSector (ray_to a b) s
some_in_quarter a b up = before_ray a b 8 (omega arith) (ahead_of_last a b up)
