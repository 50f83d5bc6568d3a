-- Places on the lines of a map, in decimetres from a line's start.
use Rattle.std.specs.Prelude.{◌≡◌, ◌<◌, ◌≤◌, Some, slice_get}
use Rattle.olr_road.specs.declared.place.Place.{Place}
use Rattle.olr_road.specs.RoadMap.{RoadMap}
use Rattle.olr_road.specs.RoadMap.{RoadLine}

-- The place is on the map: on one of its lines, at most at that line's end.
pub record IsPlace (road : RoadMap) (place : Place) : Type 0 where
  pub line : RoadLine
  pub at_rank : slice_get road.lines place.line ≡ Some line
  pub up_to_end : place.at ≤ line.length

-- A vehicle can drive on from the place along its line: the place is before that line's end.
pub record IsDeparture (road : RoadMap) (place : Place) : Type 0 where
  pub line : RoadLine
  pub at_rank : slice_get road.lines place.line ≡ Some line
  pub before_end : place.at < line.length
