-- The layout of a reference (OpenLR white paper 1.5, binary format version 3). The status byte is
-- byte 0. The first point has nine bytes: longitude and latitude of three bytes each, and
-- attributes 1 to 3. Each intermediate point has seven: longitude and latitude of two bytes each,
-- and attributes 1 to 3. The last point has six, with attributes 1 and 4. The offset bytes follow.
-- So attribute 1 of point i is byte 7 + 7 i, and its other attributes follow. Points are counted
-- from 0 here.
use Rattle.std.specs.Prelude.{◌≡◌, ℕ, ◌+◌, ◌*◌, ◌≤◌, List, slice_index}

-- a reference of `size` bytes has `count` points and `offsets` offset bytes
pub record IsLayout (size count offsets : ℕ) : Type 0 where
  pub between : ℕ
  pub with_ends : count ≡ between + 2
  pub whole : size ≡ 16 + 7 * between + offsets
  pub at_most_two : offsets ≤ 2

-- byte i, or 0 past the end
abbrev pub byte_at : List ℕ → ℕ → ℕ
byte_at bytes i = slice_index bytes i

-- the status byte
abbrev pub status_of : List ℕ → ℕ
status_of bytes = byte_at bytes 0

-- attribute 1 of point i
abbrev pub first_attribute_of : List ℕ → ℕ → ℕ
first_attribute_of bytes i = byte_at bytes (7 + 7 * i)

-- attribute 2 of point i, or attribute 4 where point i is the last
abbrev pub second_attribute_of : List ℕ → ℕ → ℕ
second_attribute_of bytes i = byte_at bytes (8 + 7 * i)

-- attribute 3 of point i, where it is not the last
abbrev pub third_attribute_of : List ℕ → ℕ → ℕ
third_attribute_of bytes i = byte_at bytes (9 + 7 * i)

-- attribute 4 of the last point of `count`
abbrev pub last_attribute_of : List ℕ → ℕ → ℕ
last_attribute_of bytes count = byte_at bytes (1 + 7 * count)

-- the first byte after `count` points, and the second
abbrev pub first_offset_of : List ℕ → ℕ → ℕ
first_offset_of bytes count = byte_at bytes (2 + 7 * count)

abbrev pub second_offset_of : List ℕ → ℕ → ℕ
second_offset_of bytes count = byte_at bytes (3 + 7 * count)
