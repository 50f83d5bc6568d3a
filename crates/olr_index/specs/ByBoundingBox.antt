-- The lines of a map in blocks, each line with its rank and its bounding box.
use Rattle.std.specs.Prelude.{◌≡◌, ◌≢◌, ℕ, ◌+◌, ◌*◌, ◌<◌, ◌≤◌, pos, int_le, ◌≤ℤ◌, Bool, true, false, take, drop, ◌&&◌, ◌==◌, List, [], ◌∷◌, map, length, Some, slice_get, slice_index_or, if◌then◌else◌}
use Rattle.std.specs.List.{All, AllPairs, list_any, filter, range_with_len}
use Rattle.olr_index.specs.declared.window.BoundingBox.{BoundingBox}
use Rattle.olr_index.specs.declared.window.PlacedLine.{PlacedLine}

-- the tests of whether a bounding box meets a window in latitude, in longitude, and in both
abbrev pub meets_in_latitude : BoundingBox → BoundingBox → Bool
meets_in_latitude window bounding_box =
    int_le bounding_box.south window.north && int_le window.south bounding_box.north

abbrev pub meets_in_longitude : BoundingBox → BoundingBox → Bool
meets_in_longitude window bounding_box = int_le bounding_box.west window.east && int_le window.west bounding_box.east

abbrev pub meets : BoundingBox → BoundingBox → Bool
meets window bounding_box = meets_in_latitude window bounding_box && meets_in_longitude window bounding_box

-- the ranks of the lines that meet a window
unfoldable pub ranks_in : BoundingBox → List PlacedLine → List ℕ
ranks_in window lines = map (λ line. line.rank) (filter (λ line. meets window line.bounding_box) lines)

-- whether a line has this rank
abbrev pub has_rank : ℕ → PlacedLine → Bool
has_rank rank line = line.rank == rank

-- the bounding box of the line of this rank
abbrev pub bounding_box_at : List PlacedLine → ℕ → BoundingBox
bounding_box_at [] rank = record { south = pos 0; north = pos 0; west = pos 0; east = pos 0 }
bounding_box_at (line ∷ lines) rank = if has_rank rank line then line.bounding_box else bounding_box_at lines rank

-- the bounding boxes of lines, by rank
unfoldable pub bounding_boxes_by_rank : List PlacedLine → List BoundingBox
bounding_boxes_by_rank lines = map (bounding_box_at lines) (range_with_len 0 (length lines))

-- the bounding boxes of lines, in the order of the lines
abbrev pub bounding_boxes_of : List PlacedLine → List BoundingBox
bounding_boxes_of lines = map (λ line. line.bounding_box) lines

-- the lines that have these bounding boxes, by rank from this one on
abbrev pub placed_from : ℕ → List BoundingBox → List PlacedLine
placed_from rank [] = []
placed_from rank (bounding_box ∷ bounding_boxes) =
    record { rank = rank; bounding_box = bounding_box } ∷ placed_from (rank + 1) bounding_boxes

-- each line's rank is its place
abbrev pub AreInOrder : List PlacedLine → Type 0
AreInOrder lines = lines ≡ placed_from 0 (bounding_boxes_of lines)

-- a line has the bounding box at its rank
abbrev pub HasItsBoundingBox : List BoundingBox → PlacedLine → Type 0
HasItsBoundingBox bounding_boxes line = slice_get bounding_boxes line.rank ≡ Some line.bounding_box

-- each line has its bounding box, and each rank occurs once
pub record AreByRank (bounding_boxes : List BoundingBox) (lines : List PlacedLine) : Type 0 where
  pub placed : All (HasItsBoundingBox bounding_boxes) lines
  pub each : (rank : ℕ) → rank < length bounding_boxes → list_any (has_rank rank) lines ≡ true
  pub once : AllPairs (λ a b. a.rank ≢ b.rank) lines

-- one bounding box lies within another
pub record Covers (outer inner : BoundingBox) : Type 0 where
  pub south : outer.south ≤ℤ inner.south
  pub north : inner.north ≤ℤ outer.north
  pub west : outer.west ≤ℤ inner.west
  pub east : inner.east ≤ℤ outer.east

-- the bounding boxes of the lines of each of the first `count` blocks, of so many lines each, lie
-- within that of the block
abbrev pub AreBlocksBelow : ℕ → ℕ → List PlacedLine → List BoundingBox → Type 0
AreBlocksBelow size count lines blocks =
    (b i : ℕ) (d : PlacedLine) (e : BoundingBox) → b < count → i < size → size * b + i < length lines
    → Covers (slice_index_or blocks b e) (slice_index_or lines (size * b + i) d).bounding_box

-- the bounding boxes of the lines of each block of so many lines lie within that of the block
pub record AreBlocks (size : ℕ) (lines : List PlacedLine) (blocks : List BoundingBox) : Type 0 where
  pub enough : length lines ≤ size * length blocks
  pub cover : AreBlocksBelow size (length blocks) lines blocks

-- none of these bounding boxes meets a window
abbrev pub NoneMeets : BoundingBox → List BoundingBox → Type 0
NoneMeets window bounding_boxes = All (λ bounding_box. meets window bounding_box ≡ false) bounding_boxes

-- the items of some parts of a list, each part `size` items long: from part `first` on, and before
-- part `end`
abbrev pub between : {X : Type 0} → ℕ → ℕ → ℕ → List X → List X
between size first end items = drop (size * first) (take (size * end) items)
