-- Quarter turns of directions, of rays and of sectors.
use Rattle.olr_metric.proofs.Common.{◌≡◌, ℕ, zero, suc, ◌+◌, ◌*◌, ◌%◌, ◌<◌, arith, ℤ, pos, negsuc, neg_ℤ, ◌-ℤ◌, ◌*ℤ◌, refl, sym, ap, inl, inr, ◌∙◌, ints, cases_lt, neg_ℤ-neg_ℤ, *ℤ-zero, *ℤ-negsuc, *ℤ_comm, Direction, cross, turned, turns, ray, IsSector}

-- a ray is a quarter turn clockwise of the one eight before
pub ray_turned : (s : ℕ) → ray (s + 8) ≡ turned (ray s)
unfolding ray
ray_turned s = grind arith

pub ray_turned_by : (k s : ℕ) → ray (s + 8 * k) ≡ turns k (ray s)
ray_turned_by zero s = let none : s + 8 * 0 ≡ s = omega arith in rw none refl
ray_turned_by (suc k) s =
    let parts : s + 8 * suc k ≡ (s + 8 * k) + 8 = omega arith in
    rw (parts, ray_turned _, ray_turned_by k s) refl

-- four quarter turns lead back
pub turned_round : (d : Direction) → turned (turned (turned (turned d))) ≡ d
turned_round d = rw (neg_ℤ-neg_ℤ d.east, neg_ℤ-neg_ℤ d.north) refl

-- as do 32 rays
pub ray_round : (s : ℕ) → ray (s + 32) ≡ ray s
ray_round s = ray_turned_by 4 s ∙ turned_round _

-- the ray of a sector that lies eight further, going round
ray_further : (s t k i j : ℕ) → s < 32 → t ≡ (s + 8) % 32 → i ≡ s + k → j ≡ t + k
    → ray j ≡ turned (ray i)
ray_further s t k i j known is at_s at_t = elim (cases_lt s 24) [
  | inl before ↦ let parts : j ≡ i + 8 = omega arith in rw parts (ray_turned i)
  | inr behind ↦
      let parts : i + 8 ≡ j + 32 = omega arith in
      sym (ray_round j) ∙ rw (← parts) (ray_turned i)
]

pub times_negative : (a b : ℤ) → a *ℤ neg_ℤ b ≡ neg_ℤ (a *ℤ b)
times_negative a (pos zero) = rw (*ℤ-zero a) refl
times_negative a (pos (suc n)) = *ℤ-negsuc a n
times_negative a (negsuc n) = rw (*ℤ-negsuc a n) (sym (neg_ℤ-neg_ℤ (a *ℤ pos (suc n))))

pub negative_times : (a b : ℤ) → neg_ℤ a *ℤ b ≡ neg_ℤ (a *ℤ b)
negative_times a b = *ℤ_comm (neg_ℤ a) b ∙ times_negative b a ∙ ap neg_ℤ (*ℤ_comm b a)

-- a turn keeps the angle between two directions
cross_of : (a b c d : ℤ) → b *ℤ neg_ℤ c -ℤ neg_ℤ a *ℤ d ≡ a *ℤ d -ℤ b *ℤ c
cross_of a b c d = rw (times_negative b c, negative_times a d) (omega (arith, ints))

pub cross_turned : (r d : Direction) → cross (turned r) (turned d) ≡ cross r d
cross_turned r d = cross_of r.east r.north d.east d.north

-- a direction that is turned by a quarter lies eight sectors further
pub sector_turned : (d : Direction) (s : ℕ) → IsSector d s → IsSector (turned d) ((s + 8) % 32)
sector_turned d s is =
    let t : ℕ = (s + 8) % 32 in
    let begin = ray_further s t 0 s t is.in_range refl (omega arith) (omega arith) in
    let end = ray_further s t 1 _ _ is.in_range refl refl refl in
    record {
      in_range = omega arith;
      begins = rw (begin, cross_turned _ d) is.begins;
      ends = rw (end, cross_turned _ d) is.ends;
    }
