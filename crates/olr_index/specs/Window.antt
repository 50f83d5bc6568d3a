-- The lines of a map that meet a window, after the latitudes and longitudes of their points. A
-- window is a bounding box as those of lines are: all places between two latitudes and between two
-- longitudes. Both are in microdegrees; a line is named by its rank.
use Rattle.std.specs.Prelude.{◌≢◌, ℕ, ℤ, ◌≤ℤ◌, List, map, slice_get, IsSomeAnd}
use Rattle.std.specs.List.{All, AllPairs, Contains}
use Rattle.olr_base.specs.declared.degrees.Degrees.{Degrees}
use Rattle.olr_index.specs.declared.window.BoundingBox.{BoundingBox}

-- the latitudes of some points
abbrev pub latitudes : List Degrees → List ℤ
latitudes points = map (λ point. point.lat) points

-- their longitudes
abbrev pub longitudes : List Degrees → List ℤ
longitudes points = map (λ point. point.lon) points

-- the least and the greatest of some numbers
pub record IsSpan (numbers : List ℤ) (least greatest : ℤ) : Type 0 where
  pub within : All (λ number. (least ≤ℤ number) × (number ≤ℤ greatest)) numbers
  pub least_is : Contains numbers least
  pub greatest_is : Contains numbers greatest

-- the least and the greatest latitude and longitude of some points
pub record IsBoundingBox (points : List Degrees) (bounding_box : BoundingBox) : Type 0 where
  pub lats : IsSpan (latitudes points) bounding_box.south bounding_box.north
  pub lons : IsSpan (longitudes points) bounding_box.west bounding_box.east

-- The bounding box begins no farther north than the window ends and ends no farther south than it
-- begins, and likewise from west to east. So for a window that doesn't end before it begins, some
-- latitude of the bounding box is one of the window, and so is some longitude.
pub record Meets (window bounding_box : BoundingBox) : Type 0 where
  pub not_north : bounding_box.south ≤ℤ window.north
  pub not_south : window.south ≤ℤ bounding_box.north
  pub not_east : bounding_box.west ≤ℤ window.east
  pub not_west : window.west ≤ℤ bounding_box.east

-- there is a line of this rank, and its bounding box meets the window; `bounding_boxes` holds the
-- bounding box of each line, by rank
abbrev pub MeetsAt : List BoundingBox → BoundingBox → ℕ → Type 0
MeetsAt bounding_boxes window rank = IsSomeAnd (slice_get bounding_boxes rank) (Meets window)

-- just the lines whose bounding box meets the window, each once
pub record IsWindow (bounding_boxes : List BoundingBox) (window : BoundingBox) (lines : List ℕ) : Type 0 where
  pub once : AllPairs (λ a b. a ≢ b) lines
  pub only : All (MeetsAt bounding_boxes window) lines
  pub each : (rank : ℕ) → MeetsAt bounding_boxes window rank → Contains lines rank
