-- A row of bytes joined with another one that is moved to the right.
use Rattle.std.specs.Prelude.{◌≡◌, ℕ, ◌-◌, ◌<◌, ◌≤◌, List, length, slice_index, bit_or}

-- The row `after` is the row `before` joined with the row `other` moved by `shift` places: at each
-- index it has the bits of `before` there, and, from the index `shift` on, those of `other` that
-- many places earlier as well.
pub record IsOrShifted (before other : List ℕ) (shift : ℕ) (after : List ℕ) : Type 0 where
  pub same_length : length after ≡ length before
  pub joined : (m : ℕ) → shift ≤ m → m < length before
      → slice_index after m ≡ bit_or (slice_index before m) (slice_index other (m - shift))
  pub same : (m : ℕ) → m < shift → slice_index after m ≡ slice_index before m
