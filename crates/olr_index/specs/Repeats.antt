-- Numbers that occur twice, and elements sorted by number.
use Rattle.std.specs.Prelude.{◌≢◌, ℕ, ◌<◌, List, length, map, take, slice_index, AllPairs, Contains, IsPermutation}
use Rattle.std.specs.List.Sorted.{IsStrictlyIncreasing}

-- no number occurs twice in a list
abbrev pub AllDiffer : List ℕ → Type 0
AllDiffer numbers = AllPairs (λ (a b : ℕ). a ≢ b) numbers

-- an earlier number equals the one at a place, and at no earlier place that is so
pub record IsFirstRepeat (numbers : List ℕ) (at : ℕ) : Type 0 where
  pub inside : at < length numbers
  pub repeats : Contains (take at numbers) (slice_index numbers at)
  pub before : AllDiffer (take at numbers)

-- `sorted` has just the elements of `elements`, by rising key
pub record Sorts {A : Type 0} (key : A → ℕ) (elements sorted : List A) : Type 0 where
  pub same : IsPermutation elements sorted
  pub rise : IsStrictlyIncreasing (map key sorted)
