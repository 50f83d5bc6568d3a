-- The shares of none of these and of places are more than nothing together.
use Rattle.std.proofs.Common.{◌≡◌, ◌≤◌, ◌<◌, ℕ, ◌+◌, ◌-◌, min, arith, ℤ, pos, int_le, nat_abs, Bool, true, false, if◌then◌else◌, List, [], ◌∷◌, length, map, sum_by, subst, sym, refl}
use Rattle.std.proofs.lemmas.List.Sums.{sum_by-cons}
use Rattle.olr_confidence.specs.Power.{power}
use Rattle.olr_confidence.specs.Shares.{whole_of}
use Rattle.olr_confidence.specs.inner.Below.{above_zero, below_zero, least_of}

power_of_zero : (below : ℕ) → below ≡ 0 → 0 < power below
power_of_zero below is = subst (λ one. 0 < power one) (sym is) (omega arith)

more : (whole first rest : ℕ) → whole ≡ first + rest → 0 < first → 0 < whole
more whole first rest is positive = omega arith

more_behind : (whole first rest : ℕ) → whole ≡ first + rest → 0 < rest → 0 < whole
more_behind whole first rest is positive = omega arith

nothing : (number least : ℕ) → number ≤ least → (number - least) + 0 ≡ 0
nothing number least le = omega arith

either : (number least others first behind : ℕ) → min number others ≤ least
    → (number ≤ least → 0 < first) → (others ≤ least → 0 < behind) → 0 < first + behind
either number least others first behind small one other = grind (arith)

-- the place that loses least counts
some_counts : (least : ℕ) (losses : List ℕ) → 0 < length losses → least_of losses ≤ least
    → 0 < sum_by power (map (λ lost. (lost - least) + 0) losses)
some_counts least [] there small = omega arith
some_counts least (number ∷ []) there small = more _ (power ((number - least) + 0)) 0
    (sum_by-cons power ((number - least) + 0) []) (power_of_zero _ (omega arith))
some_counts least (number ∷ next ∷ rest) there small = both _ _ _
    (sum_by-cons power ((number - least) + 0) (map (λ lost. (lost - least) + 0) (next ∷ rest)))
    (either number least (least_of (next ∷ rest)) _ _ small
    (λ le. power_of_zero _ (nothing number least le))
    (λ le. some_counts least (next ∷ rest) (omega arith) le))
  where
    both : (whole first behind : ℕ) → whole ≡ first + behind → 0 < first + behind → 0 < whole
    both whole first behind is positive = omega arith

by_sign : (is_ahead : Bool) (size : ℕ) (losses : List ℕ) → 0 < length losses
    → 0 < whole_of (if is_ahead then 0 else size)
    (map (λ lost. (lost - least_of losses) + (if is_ahead then size else 0)) losses)
by_sign true size losses there = more _ (power 0) _ refl (power_of_zero 0 refl)
by_sign false size losses there = more_behind _ (power size) _ refl
    (some_counts (least_of losses) losses there (omega arith))

-- as the program has them
pub positive : (lead : ℤ) (losses below shown : List ℕ) (least ahead behind : ℕ)
    → 0 < length losses → least ≡ least_of losses → ahead ≡ above_zero lead → behind ≡ below_zero lead
    → below ≡ map (λ lost. (lost - least) + ahead) losses → shown ≡ below
    → 0 < whole_of behind shown
positive lead losses below shown least ahead behind there least_is ahead_is behind_is below_is
    shown_is = rw (shown_is, below_is, ahead_is, behind_is, least_is)
    (by_sign (int_le (pos 0) lead) (nat_abs lead) losses there)
