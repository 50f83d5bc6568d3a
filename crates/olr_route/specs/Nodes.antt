-- The nodes at which a line of a road map starts and ends.
use Rattle.std.specs.Prelude.{◌≡◌, ℕ, Some, slice_get}
use Rattle.olr_road.specs.RoadMap.{RoadMap, origins_of}
use Rattle.olr_road.specs.RoadMap.{RoadLine}

-- the line starts at the node
abbrev pub StartsAt : RoadMap → ℕ → ℕ → Type 0
StartsAt road node line = slice_get (origins_of road.lines) line ≡ Some node

-- the line ends at the node
pub record EndsAt (road : RoadMap) (node line : ℕ) : Type 0 where
  pub here : RoadLine
  pub at : slice_get road.lines line ≡ Some here
  pub to : here.to ≡ node
