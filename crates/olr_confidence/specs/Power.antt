-- Powers of two with fractions in the exponent, in whole numbers.
use Rattle.std.specs.Prelude.{◌≡◌, ℕ, ◌+◌, ◌*◌, ◌/◌, ◌%◌, ◌^◌, ◌<◌, ◌≤◌, slice_index_or, List, length, Some, slice_get}
use Rattle.olr_confidence.specs.declared.powers.TheConstants.{SIXTEENTHS, FINER, FINEST}

-- `number` is 2^(31 - at / parts), rounded down:
-- number^parts * 2^at <= 2^(31 parts) < (number + 1)^parts * 2^at.
pub record IsFloorOfPower (parts at number : ℕ) : Type 0 where
  pub at_most : number ^ parts * 2 ^ at ≤ (2 ^ 31) ^ parts
  pub next : (2 ^ 31) ^ parts < (number + 1) ^ parts * 2 ^ at

-- so are the 16 entries of a table, each by its number in the table
pub record AreFloors (parts : ℕ) (table : List ℕ) : Type 0 where
  pub count : length table ≡ 16
  pub each : (at number : ℕ) → slice_get table at ≡ Some number → IsFloorOfPower parts at number

-- 2 to the power of 31 less so many parts, of which 4096 are one: the product of powers of the three
-- tables, rounded down behind each
abbrev pub power_of_steps : ℕ → ℕ
power_of_steps steps = slice_index_or SIXTEENTHS (steps / 256 % 16) 0
    * slice_index_or FINER (steps / 16 % 16) 0 / 2 ^ 31
    * slice_index_or FINEST (steps % 16) 0 / 2 ^ 31 / 2 ^ (steps / 4096)

-- 2 to the power of 31 less `lost` parts, of which 2^24 are one: these are rounded to the nearest
-- multiple of 4096
abbrev pub power : ℕ → ℕ
power lost = power_of_steps ((lost + 2048) / 4096)

-- the entries of the three tables
pub record EntriesAreFloors : Type 0 where
  pub sixteenths : AreFloors 16 SIXTEENTHS
  pub finer : AreFloors 256 FINER
  pub finest : AreFloors 4096 FINEST
