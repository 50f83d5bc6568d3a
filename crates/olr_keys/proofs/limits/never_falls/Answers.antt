use Rattle.olr_keys.proofs.Common.{ℕ, ◌+◌, ◌<◌, Bool, true, false, true≢false, List, length, get_or, Decides, refl, sym, arith, MatchBool}
use Rattle.std.specs.List.Sorted.{IsNonDecreasing}
use Rattle.std.proofs.lemmas.List.Sorted.{non_decreasing_from_is_sorted}
use Rattle.olr_keys.proofs.limits.never_falls.Goals as goal

-- numbers that rise have no neighbours that fall
decides : (xs : List ℕ) (r : Bool)
    → MatchBool r (IsNonDecreasing xs) ((k : ℕ) × (k + 1 < length xs)
    × ((d : ℕ) → get_or xs (k + 1) d < get_or xs k d)) → Decides r (IsNonDecreasing xs)
decides xs true rise = (λ _. rise, λ _. refl)
decides xs false falls = (
  λ is. absurd (true≢false (sym is)),
  λ rise. absurd
      (omega (arith, falls.2 0, rise falls.0 (falls.0 + 1) 0 (omega arith) falls.1)),
)

pub returns : goal.returns
returns c = decides _ _ (non_decreasing_from_is_sorted _ _ c.is_sorted.ensures.cases)
