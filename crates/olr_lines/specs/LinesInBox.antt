-- The lines of a map that meet a box. Coordinates are in microdegrees.
use Rattle.std.specs.Prelude.{◌≡◌, ◌↔◌, ◌<◌, ℕ, ℤ, Bool, false, ◌&&◌, int_le, List, Option, None, Some, IsTrue, filter, length, slice_get, take}
use Rattle.std.specs.List.{list_any, range_with_len}
use Rattle.olr_base.specs.Coordinates.{Coordinates}
use Rattle.olr_index.specs.declared.window.BoundingBox.{BoundingBox}
use Rattle.olr_road.specs.RoadMap.{RoadLine}
use Rattle.olr_lines.specs.declared.geo_box.GeoBox.{GeoBox}
use Rattle.olr_lines.specs.declared.lines.LinesInBox.{LinesInBox}

-- the box with these edges
pub record HasEdges (west south east north : ℤ) (made : GeoBox) : Type 0 where
  pub west_is : made.west ≡ west
  pub south_is : made.south ≡ south
  pub east_is : made.east ≡ east
  pub north_is : made.north ≡ north

-- a box as a window of a map
abbrev pub window_of : GeoBox → BoundingBox
window_of wanted = record {
  south = wanted.south;
  north = wanted.north;
  west = wanted.west;
  east = wanted.east;
}

module _ (wanted : GeoBox) where
  -- Whether the bounding box of a line meets the box: its southern edge, the least latitude of its
  -- points, lies not north of the box, so some point does; and likewise not south, east or west.
  abbrev pub is_meeting : RoadLine → Bool
  is_meeting line =
      list_any (λ (point : Coordinates). int_le point.lat wanted.north) line.points
      && list_any (λ (point : Coordinates). int_le wanted.south point.lat) line.points
      && list_any (λ (point : Coordinates). int_le point.lon wanted.east) line.points
      && list_any (λ (point : Coordinates). int_le wanted.west point.lon) line.points

  -- whether there is a line, and it meets the box
  abbrev pub is_some_meeting : Option RoadLine → Bool
  is_some_meeting None = false
  is_some_meeting (Some line) = is_meeting line

-- the ranks of all lines that meet the box, rising
abbrev pub lines_meeting : List RoadLine → GeoBox → List ℕ
lines_meeting lines wanted =
    filter (λ rank. is_some_meeting wanted (slice_get lines rank))
    (range_with_len 0 (length lines))

-- so many of these lines at most, the first ones, and whether there are others
pub record AreFirst (most : ℕ) (all : List ℕ) (found : LinesInBox) : Type 0 where
  pub ranks : found.ranks.items ≡ take most all
  pub more : IsTrue found.more ↔ (most < length all)
