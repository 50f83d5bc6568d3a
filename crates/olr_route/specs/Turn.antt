-- How lines of a map follow one another, and what a class limit lets through. Lines are named by
-- their ranks.
use Rattle.std.specs.Prelude.{◌≡◌, ℕ, ◌≤◌, List, Some, slice_get, Contains}
use Rattle.olr_road.specs.declared.ban.Ban.{Ban}
use Rattle.olr_road.specs.RoadMap.{RoadMap, ban_of}
use Rattle.olr_road.specs.RoadMap.{RoadLine}

-- the turn from line `a` to line `b` isn't banned
abbrev pub IsAllowed : RoadMap → ℕ → ℕ → Type 0
IsAllowed road a b = Contains road.bans (ban_of a b) → ⊥

-- none of some bans is on a turn to this line
abbrev pub IsNoneTo : List Ban → ℕ → Type 0
IsNoneTo bans next = (ban : Ban) → Contains bans ban → ban.to ≡ next → ⊥

-- A vehicle at the end of line `a` may go on to line `b`: this one starts at the node where the
-- other ends, and the turn isn't banned. Each condition on neighbouring lines of a walk is a field
-- of this record.
pub record IsTurn (road : RoadMap) (a b : ℕ) : Type 0 where
  pub before : RoadLine
  pub after : RoadLine
  pub leaves : slice_get road.lines a ≡ Some before
  pub enters : slice_get road.lines b ≡ Some after
  pub meets : before.to ≡ after.from
  pub allowed : IsAllowed road a b

-- the line is on the map, and its class is at most the limit
pub record IsOpen (road : RoadMap) (class rank : ℕ) : Type 0 where
  pub line : RoadLine
  pub at : slice_get road.lines rank ≡ Some line
  pub within : line.class ≤ class
