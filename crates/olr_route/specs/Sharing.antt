-- Departures that share a search. Walks that leave their lines go on over the same lines, so the
-- lengths from one of them tell those from the other.
use Rattle.std.specs.Prelude.{◌≡◌, ℕ, ◌≤◌, ◌⊎◌}
use Rattle.olr_road.specs.RoadMap.{RoadMap}
use Rattle.olr_road.specs.declared.place.Place.{Place}
use Rattle.olr_route.specs.Steps.{rest_of_line}
use Rattle.olr_route.specs.Turn.{IsAllowed, IsOpen}

-- no turn from the end of the line is banned
abbrev pub HasNoBan : RoadMap → ℕ → Type 0
HasNoBan road line = (next : ℕ) → IsAllowed road line next

-- The class limit lets two lines through, they end at one node, and no turn from the end of either
-- is banned. So the same lines may follow both. Other lines may lead on alike, too, as where the
-- same turns are banned from both.
pub record LeadOnAlike (road : RoadMap) (class line other : ℕ) : Type 0 where
  pub one : IsOpen road class line
  pub another : IsOpen road class other
  pub meets : one.line.to ≡ another.line.to
  pub free : HasNoBan road line
  pub other_free : HasNoBan road other

-- A search that began at `start` serves `from` too: they are one place, or the same lines may
-- follow both, and it isn't farther from `start` to the end of its line. So a limit within which a
-- walk from `from` reaches a place by leaving its line suffices for it.
abbrev pub Serves : RoadMap → ℕ → Place → Place → Type 0
Serves road class start from = (start ≡ from)
    ⊎ (LeadOnAlike road class start.line from.line
    × (rest_of_line road start ≤ rest_of_line road from))
