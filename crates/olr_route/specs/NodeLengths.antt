-- The lengths of nodes, on pages of 16 nodes each.
use Rattle.std.specs.Prelude.{◌≡◌, ◌≢◌, ◌+◌, ◌*◌, ◌/◌, ◌%◌, ◌<◌, ℕ, zero, suc, List, Option, Some, None, length, slice_index}

-- Lengths in decimetres, page after page, and for each block of 16 nodes the number of its page.
-- The lengths are 0 where a node has none. Page 0 has no length: it serves all blocks that have no
-- page of their own.
pub record Paged : Type 0 where
  pub pages : List ℕ
  pub lengths : List ℕ

-- where the length of a node is
abbrev pub place_of : List ℕ → ℕ → ℕ
place_of pages node = slice_index pages (node / 16) * 16 + node % 16

-- a number as a length: 0 is none
abbrev pub above_zero : ℕ → Option ℕ
above_zero zero = None
above_zero (suc length) = Some (suc length)

-- the length of a node, if it has one
abbrev pub length_of : Paged → ℕ → Option ℕ
length_of paged node = above_zero (slice_index paged.lengths (place_of paged.pages node))

-- The lengths are whole pages, and the page of each block is one of them. No two blocks share a
-- page but page 0, which has no length.
pub record ArePages (pages lengths : List ℕ) : Type 0 where
  pub whole : length lengths % 16 ≡ 0
  pub each : (block : ℕ) → slice_index pages block * 16 < length lengths
  pub apart : (block other : ℕ) → 0 < slice_index pages block → block ≢ other
      → slice_index pages block ≢ slice_index pages other
  pub none : (place : ℕ) → place < 16 → slice_index lengths place ≡ 0
