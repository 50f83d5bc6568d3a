-- The lines of a map by place: those that meet a band of latitudes, or a window.
use Rattle.std.specs.Prelude.{◌≡◌, ◌≢◌, ℕ, ℤ, ◌≤ℤ◌, List, Some, slice_get, All, AllPairs, Contains}
use Rattle.olr_index.specs.declared.window.BoundingBox.{BoundingBox}
use Rattle.olr_base.specs.Coordinates.{Coordinates}
use Rattle.olr_road.specs.RoadMap.{RoadLine}

-- The span of a line's latitudes meets the band from `low` to `high`, in microdegrees and both
-- included: one of its points lies not north of the band, and one not south of it. A band that ends
-- before it begins meets nothing.
pub record MeetsBand (low high : ℤ) (line : RoadLine) : Type 0 where
  pub band : low ≤ℤ high
  pub southern : Coordinates
  pub northern : Coordinates
  pub one : Contains line.points southern
  pub other : Contains line.points northern
  pub not_north : southern.lat ≤ℤ high
  pub not_south : low ≤ℤ northern.lat

-- there is a line of this rank, and it meets the band
abbrev pub RankMeetsBand : List RoadLine → ℤ → ℤ → ℕ → Type 0
RankMeetsBand lines low high rank = (line : RoadLine) × (slice_get lines rank ≡ Some line)
    × MeetsBand low high line

-- just the lines that meet a band, by rank, each once
pub record IsBandOf (lines : List RoadLine) (low high : ℤ) (ranks : List ℕ) : Type 0 where
  pub once : AllPairs (λ (a b : ℕ). a ≢ b) ranks
  pub only : All (RankMeetsBand lines low high) ranks
  pub each : (rank : ℕ) → RankMeetsBand lines low high rank → Contains ranks rank

-- The same of longitudes, from `west` to `east`: one of a line's points lies not east of them, and
-- one not west of them.
pub record MeetsLongitudes (west east : ℤ) (line : RoadLine) : Type 0 where
  pub band : west ≤ℤ east
  pub western : Coordinates
  pub eastern : Coordinates
  pub one : Contains line.points western
  pub other : Contains line.points eastern
  pub not_east : western.lon ≤ℤ east
  pub not_west : west ≤ℤ eastern.lon

-- The bounding box of a line meets a window: the span of its latitudes meets that of the window's,
-- and so does the span of its longitudes. The line itself may pass beside the window. A window that
-- ends before it begins, in either direction, meets nothing.
pub record MeetsWindow (window : BoundingBox) (line : RoadLine) : Type 0 where
  pub lats : MeetsBand window.south window.north line
  pub lons : MeetsLongitudes window.west window.east line

-- there is a line of this rank, and it meets the window
abbrev pub RankMeetsWindow : List RoadLine → BoundingBox → ℕ → Type 0
RankMeetsWindow lines window rank = (line : RoadLine) × (slice_get lines rank ≡ Some line)
    × MeetsWindow window line

-- just the lines that meet a window, by rank, each once
pub record IsWindowOf (lines : List RoadLine) (window : BoundingBox) (ranks : List ℕ) : Type 0 where
  pub once : AllPairs (λ (a b : ℕ). a ≢ b) ranks
  pub only : All (RankMeetsWindow lines window) ranks
  pub each : (rank : ℕ) → RankMeetsWindow lines window rank → Contains ranks rank
