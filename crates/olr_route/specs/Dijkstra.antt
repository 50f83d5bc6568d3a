-- Dijkstra's search. Arrivals at the ends of lines come by rising length, in decimetres: each of
-- them reaches the lines that may follow and weren't reached before, and a line that is reached
-- keeps its length.
use Rattle.std.specs.Prelude.{◌≡◌, ℕ, ◌+◌, ◌^◌, ◌<◌, ◌≤◌, ◌⊎◌, Bool, true, false, List, All, length, slice_get, option_map, Option, Some, None, IsSome, IfSome, Contains, nat_eq}
use Rattle.std.specs.HashMap.{get}
use Rattle.olr_road.specs.Goals.{AreGoalsOn, GoalLines}
use Rattle.olr_road.specs.declared.place.Place.{Place}
use Rattle.olr_road.specs.declared.step.Step.{Step}
use Rattle.olr_road.specs.RoadMap.{RoadMap}
use Rattle.olr_road.specs.Steps.{IsStepOf, line_ranks}
use Rattle.olr_route.specs.Groups.{items_in}
use Rattle.olr_route.specs.Nodes.{EndsAt, StartsAt}
use Rattle.olr_route.specs.declared.arrival.Arrival.{Arrival}
use Rattle.olr_route.specs.declared.search.Search.{Search}
use Rattle.olr_route.specs.declared.state.State.{State}
use Rattle.olr_route.specs.NodeLengths.{length_of}
use Rattle.olr_route.specs.Starts.{table_in}
use Rattle.olr_route.specs.Steps.{IsRelaxed, IsSearch, IsUseful, total}
use Rattle.olr_route.specs.Turn.{IsAllowed, IsTurn, IsOpen}
use Rattle.olr_route.specs.Walk.{length_at}

-- ---- the queue

-- an arrival over the line after this length is in the queue
abbrev pub Awaits : List Arrival → ℕ → ℕ → Type 0
Awaits items line at_end = (arrival : Arrival) × Contains items arrival × (arrival.line ≡ line)
    × (arrival.at_end ≡ at_end)

-- an arrival at the end of a line that the class limit lets through, after this length, which is
-- within the limit
pub record IsArrivalOver (search : Search) (at_end : ℕ) (arrival : Arrival) : Type 0 where
  pub clear : IsOpen search.map.now search.class arrival.line
  pub ends : EndsAt search.map.now arrival.node arrival.line
  pub long : arrival.at_end ≡ at_end
  pub within : arrival.at_end ≤ search.limit

-- The step ends where its line ends and has its class. Its length may be that of a part.
pub record IsStepOver (road : RoadMap) (step : Step) : Type 0 where
  pub ends : EndsAt road step.to step.line
  pub class : ends.here.class ≡ step.class

-- the lines to whose starts the search is asked for lengths, if not to all
abbrev pub asked_of : Search → Option (List ℕ)
asked_of search = option_map (λ (goals : GoalLines). goals.lines) search.goals

-- the goals of the search, if it has some, are of its map
abbrev pub HasGoalsOnMap : Search → Type 0
HasGoalsOnMap search = IfSome search.goals (AreGoalsOn search.map.now)

-- from the end of the line a turn leads to a line, and this length to its start is useful
abbrev pub MayGoOn : Search → ℕ → ℕ → Type 0
MayGoOn search line at_end =
    (next : ℕ) × IsTurn search.map.now line next
    × IsUseful search.map.now search.class (asked_of search) search.limit next at_end

-- A line whose end is reached after this length waits in the queue, if the class limit lets it
-- through, the search may go on from there, and it isn't done.
abbrev pub WaitsIn : Search → (ℕ → Type 0) → List Arrival → ℕ → ℕ → Type 0
WaitsIn search Done items line at_end = IsOpen search.map.now search.class line
    → MayGoOn search line at_end → Awaits items line at_end ⊎ Done line

-- The queue after a line was put into it, if the limits let it through, the search may go on from
-- its end and it isn't done: it holds all that it held before, and at most one arrival more.
pub record IsPushed (search : Search) (Done : ℕ → Type 0) (line at_end : ℕ)
    (before after : List Arrival) : Type 0 where
  pub kept : (arrival : Arrival) → Contains before arrival → Contains after arrival
  pub added : (arrival : Arrival) → Contains after arrival → Contains before arrival
      ⊎ ((arrival.line ≡ line) × IsArrivalOver search at_end arrival)
  pub waits : WaitsIn search Done after line at_end
  pub grows : length after ≤ length before + 1

-- ---- the nodes

-- the steps of the lines from a node that is reached to which every turn was banned so far
abbrev pub steps_at : State → ℕ → List Step
steps_at state node = items_in (get nat_eq state.banned node)

-- the ranks of these lines
abbrev pub banned_at : State → ℕ → List ℕ
banned_at state node = line_ranks (steps_at state node)

-- What is known of the nodes is right. Before the first arrival at a node nothing is kept of it and
-- of the lines that start there. From then on each of these lines is reached, or it is one of those
-- to which every turn was banned, whose steps are kept.
pub record AreNodes (road : RoadMap) (state : State) : Type 0 where
  pub unreached : (node : ℕ) → length_of state.starts.nodes node ≡ None
      → (get nat_eq state.banned node ≡ None)
      × ((line : ℕ) → StartsAt road node line → get nat_eq state.starts.own line ≡ None)
  pub reached : (node line : ℕ) → IsSome (length_of state.starts.nodes node)
      → StartsAt road node line
      → IsSome (table_in road state.starts line) ⊎ Contains (banned_at state node) line
  pub banned : (node line : ℕ) → Contains (banned_at state node) line → StartsAt road node line
      × (get nat_eq state.starts.own line ≡ Some None)
  pub steps : (node : ℕ) → All (IsStepOf road.lines) (steps_at state node)

-- the search arrived at the node, and keeps no steps of lines from there to which every turn was
-- banned: all lines from it are reached
pub record IsDoneAt (state : State) (node : ℕ) : Type 0 where
  pub arrived : IsSome (length_of state.starts.nodes node)
  pub none_banned : get nat_eq state.banned node ≡ None

-- the same of the node at the end of a line: an arrival there changes nothing
pub record IsDone (road : RoadMap) (state : State) (line : ℕ) : Type 0 where
  pub node : ℕ
  pub ends : EndsAt road node line
  pub done : IsDoneAt state node

-- How many lines from a node are still to be reached, where the node itself is reached.
abbrev pub still_banned : State → ℕ → Option ℕ
still_banned state node = option_map (λ _. length (banned_at state node))
    (length_of state.starts.nodes node)

-- A bound on how many arrivals are still put into the queue. A node that isn't reached counts as 2
-- ^ 63 lines: no list in memory is longer.
abbrev pub still_to_come : RoadMap → State → ℕ
still_to_come road state = total (2 ^ 63) (length road.nodes) (still_banned state)

-- ---- an arrival

-- what is kept of a line itself that is reached: nothing at the first arrival at its node, whose
-- length serves it
abbrev pub own_reached : Bool → ℕ → Option (Option ℕ)
own_reached true at_end = None
own_reached false at_end = Some (Some at_end)

-- At an arrival some lines from the node were visited. Those to which the turn is banned are put
-- aside and aren't reached. The others are reached, and wait in the queue where the limits let them
-- through.
pub record AreVisited (search : Search) (Done : ℕ → Type 0) (arrival : Arrival) (is_first : Bool)
    (lines banned : List ℕ)
    (old new : ℕ → Option (Option ℕ)) (before after : List Arrival) : Type 0 where
  pub each : (next : ℕ) → Contains lines next → (Contains banned next × (new next ≡ Some None))
      ⊎ (IsAllowed search.map.now arrival.line next
      × (new next ≡ own_reached is_first arrival.at_end)
      × WaitsIn search Done after next (arrival.at_end + length_at search.map.now next))
  pub others : (next : ℕ) → (new next ≡ old next) ⊎ Contains lines next
  pub aside : (next : ℕ) → Contains banned next → Contains lines next
      × (IsAllowed search.map.now arrival.line next → ⊥)
  pub kept : (other : Arrival) → Contains before other → Contains after other
  pub added : (other : Arrival) → Contains after other → Contains before other
      ⊎ (Contains lines other.line × IsAllowed search.map.now arrival.line other.line
      × IsArrivalOver search (arrival.at_end + length_at search.map.now other.line) other)
  pub grows : length after + length banned ≤ length before + length lines

-- every line that may follow this one is reached
abbrev pub AreAheadReached : RoadMap → (ℕ → Option ℕ) → ℕ → Type 0
AreAheadReached road table line = (next : ℕ) → IsTurn road line next → IsSome (table next)

-- After an arrival at the end of a line each line that may follow is reached: after the length to
-- that end, unless it was reached before. Nothing else is. The lines that are new wait in the
-- queue, where the limits let them through and not all lines ahead were reached already.
pub record IsArrived (search : Search) (line at_end : ℕ) (old new : ℕ → Option ℕ)
    (before after : List Arrival) : Type 0 where
  pub each : (next : ℕ) → (new next ≡ old next)
      ⊎ ((old next ≡ None) × IsTurn search.map.now line next × (new next ≡ Some at_end))
  pub all : AreAheadReached search.map.now new line
  pub kept : (arrival : Arrival) → Contains before arrival → Contains after arrival
  pub added : (arrival : Arrival) → Contains after arrival → Contains before arrival
      ⊎ (IsTurn search.map.now line arrival.line
      × IsArrivalOver search (at_end + length_at search.map.now arrival.line) arrival)
  pub waits : (next : ℕ) → old next ≡ None → new next ≡ Some at_end
      → WaitsIn search (AreAheadReached search.map.now old) after next
      (at_end + length_at search.map.now next)

-- what an arrival changes
pub record HasArrived (search : Search) (arrival : Arrival) (old new : State) : Type 0 where
  pub arrived : IsArrived search arrival.line arrival.at_end (table_in search.map.now old.starts)
      (table_in search.map.now new.starts) old.queue new.queue
  pub nodes : AreNodes search.map.now new
  pub bounded : length new.queue + still_to_come search.map.now new ≤ length old.queue
      + still_to_come search.map.now old

-- ---- where the search ends

-- the start of each of the first `count` of these lines is reached
abbrev pub AreReachedFirst : (ℕ → Option ℕ) → List ℕ → ℕ → Type 0
AreReachedFirst table lines count = (index line : ℕ) → index < count
    → slice_get lines index ≡ Some line → IsSome (table line)

-- the start of each line that a search is asked for is reached, if it isn't asked for all
abbrev pub AreAllReached : Option (List ℕ) → (ℕ → Option ℕ) → Type 0
AreAllReached None table = ⊥
AreAllReached (Some lines) table = AreReachedFirst table lines (length lines)

-- A search up to a limit ended after it went as far as the length `searched`: no useful length up
-- to it is missing. It went to the limit, or it has reached all that it was asked for.
pub record HasEnded (road : RoadMap) (class : ℕ) (from : Place) (asked : Option (List ℕ))
    (limit : ℕ) (table : ℕ → Option ℕ) : Type 0 where
  pub searched : ℕ
  pub at_most : searched ≤ limit
  pub knows : IsSearch road class from asked searched table
  pub settled : (line : ℕ) → IsRelaxed road class asked searched table line
  pub far : AreAllReached asked table ⊎ (searched ≡ limit)
