-- Items whose keys are pairs of numbers, each packed into one: the first number foremost, and the
-- second in the last 32 bits.
use Rattle.std.specs.Prelude.{◌≡◌, ℕ, ◌/◌, ◌^◌, List, map, All, Contains}
use Rattle.std.specs.List.Sorted.{IsStrictlyIncreasing}

-- the first number of a pair
abbrev pub first_of : ℕ → ℕ
first_of key = key / 2 ^ 32

-- just those of some items whose pairs have this first number, by rising key
pub record AreOfFirst {T : Type 0} (key_of : T → ℕ) (items : List T) (first : ℕ)
    (found : List T) : Type 0 where
  pub only : All (λ item. Contains items item × (first_of (key_of item) ≡ first)) found
  pub each : (item : T) → Contains items item → first_of (key_of item) ≡ first → Contains found item
  pub rising : IsStrictlyIncreasing (map key_of found)
