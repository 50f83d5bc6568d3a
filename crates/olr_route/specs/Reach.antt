-- What a search from a place of the map has found.
use Rattle.std.specs.Prelude.{◌≡◌, ℕ, ◌+◌, ◌≤◌, List, Option, Some, nat_eq}
use Rattle.std.specs.Map.{lookup}
use Rattle.olr_road.specs.Place.{IsDeparture}
use Rattle.olr_road.specs.RoadMap.{RoadMap}
use Rattle.olr_road.specs.declared.place.Place.{Place}
use Rattle.olr_route.specs.Least.{IsLeastLength, IsLengthWithin}
use Rattle.olr_route.specs.NodeLengths.{Paged, length_of}
use Rattle.olr_route.specs.Starts.{start_length}
use Rattle.olr_route.specs.Steps.{IsAskedFor, ReachesStart}
use Rattle.olr_route.specs.Walk.{walk_length, start_of, LeadTo}

-- What a search from a place under a class limit found up to a limit, in decimetres. It was asked
-- for the lengths to the starts of some lines, or of all. For each node that was reached it has the
-- length to the start of each line from it, but for the lines that have a length of their own, or
-- none if their start was not reached.
pub record Lengths : Type 0 where
  pub class : ℕ
  pub from : Place
  pub limit : ℕ
  pub asked : Option (List ℕ)
  pub nodes : Paged
  pub own : List (ℕ × Option ℕ)

-- the length to the start of a line, if it was reached
abbrev pub length_to_start : RoadMap → Lengths → ℕ → Option ℕ
length_to_start road lengths line =
    start_length road (length_of lengths.nodes) (λ rank. lookup (nat_eq rank) lengths.own) line

-- the search has the least length to the start of a line up to the limit: it ran for all lines, or
-- this line was a target
abbrev pub Covers : Lengths → ℕ → Type 0
Covers lengths line = IsAskedFor lengths.asked line

-- The table has the length to the start of each line on each shortest walk to the start of the
-- target line, where that walk is within the limit.
abbrev pub HasWalksTo : RoadMap → ℕ → Place → ℕ → (ℕ → Option ℕ) → ℕ → Type 0
HasWalksTo road class from limit table target = (n line length : ℕ) (rest : List ℕ)
    → ReachesStart road class from n line length
    → LeadTo road class (start_of line) (start_of target) rest
    → (least : ℕ) → IsLeastLength road class from (start_of target) least
    → length + walk_length road (start_of line) (start_of target) rest ≡ least
    → least ≤ limit → table line ≡ Some length

-- The lengths are those of this map: the search began at a departure on it, and each length is
-- within the limit and one of a walk. For each line that the search covers it holds the least
-- length to its start where that is within the limit, else none; and it holds the lengths along
-- each walk of that length.
pub record AreLengthsOn (road : RoadMap) (lengths : Lengths) : Type 0 where
  pub from_map : IsDeparture road lengths.from
  pub sound : (line length : ℕ) → length_to_start road lengths line ≡ Some length
      → (length ≤ lengths.limit) × ((n : ℕ)
      × ReachesStart road lengths.class lengths.from n line length)
  pub each : (line : ℕ) → Covers lengths line
      → IsLengthWithin road lengths.class lengths.from (start_of line) lengths.limit
      (length_to_start road lengths line)
  pub walks : (line : ℕ) → Covers lengths line
      → HasWalksTo road lengths.class lengths.from lengths.limit (length_to_start road lengths) line
