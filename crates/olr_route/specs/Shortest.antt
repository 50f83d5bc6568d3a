-- Shortest paths to the start of a target line. A table gives, for each line whose start is reached
-- within the limit, the least length to that start, in decimetres.
use Rattle.std.specs.Prelude.{◌≡◌, ℕ, ◌+◌, ◌≤◌, List, [], ◌∷◌, Option, Some, None, MatchOption, Contains}
use Rattle.olr_road.specs.RoadMap.{RoadMap}
use Rattle.olr_road.specs.declared.place.Place.{Place}
use Rattle.olr_route.specs.declared.piece.Piece.{Piece}
use Rattle.olr_route.specs.declared.groups.Groups.{Groups}
use Rattle.olr_route.specs.declared.search.Search.{Search}
use Rattle.olr_route.specs.Nodes.{StartsAt}
use Rattle.olr_route.specs.Groups.{group_of}
use Rattle.olr_route.specs.Turn.{IsAllowed, IsTurn, IsOpen}
use Rattle.olr_route.specs.Walk.{length_at, pieces_of, start_of}
use Rattle.olr_route.specs.Steps.{rest_of_line}

-- A turn from a place's line to the line `next` is tight: the place was reached after the length
-- `so_far`, the class limit lets its line through, and the least length to the start of `next` is
-- `so_far` and the rest of the place's line.
pub record IsTight (road : RoadMap) (class : ℕ) (IsLeast : ℕ → ℕ → Type 0) (place : Place)
    (so_far next : ℕ) : Type 0 where
  pub clear : IsOpen road class place.line
  pub turn : IsTurn road place.line next
  pub least : IsLeast next (so_far + rest_of_line road place)

-- the line is in a group of this length
abbrev pub IsIn : Groups → ℕ → ℕ → Type 0
IsIn groups line length = (node : ℕ) × Contains (group_of groups node length) line

-- tight turns lead from a place over these lines to the start of the target
abbrev pub IsTightPath : RoadMap → ℕ → (ℕ → Option ℕ) → ℕ → Place → ℕ → List ℕ → Type 0
IsTightPath road class table target place so_far [] = (place ≡ start_of target)
    × (table target ≡ Some so_far)
IsTightPath road class table target place so_far (next ∷ rest) =
    IsTight road class (λ line length. table line ≡ Some length) place so_far next
    × IsTightPath road class table target (start_of next) (so_far + rest_of_line road place) rest

-- The line is on a shortest path: this is the least length to its start, and from there tight turns
-- lead to the target.
abbrev pub IsOnPath : RoadMap → ℕ → (ℕ → Option ℕ) → ℕ → ℕ → ℕ → Type 0
IsOnPath road class table target line length = (table line ≡ Some length)
    × ((rest : List ℕ) × IsTightPath road class table target (start_of line) length rest)

-- The groups have just the lines on a shortest path, each at the node where it starts and with the
-- least length to its start.
pub record AreOnShortestPaths (road : RoadMap) (class : ℕ) (table : ℕ → Option ℕ) (target : ℕ)
    (groups : Groups) : Type 0 where
  pub only : (node length line : ℕ) → Contains (group_of groups node length) line
      → StartsAt road node line × IsOnPath road class table target line length
  pub each : (line length : ℕ) → IsOnPath road class table target line length
      → IsIn groups line length

-- Each line of a group starts at the group's node, and no group has a length above the limit.
abbrev pub AreGroups : Search → Groups → Type 0
AreGroups search groups = (node length line : ℕ) → Contains (group_of groups node length) line
    → StartsAt search.map.now node line × (length ≤ search.limit)

-- a turn to a line of the groups is tight
abbrev pub IsTightIn : Search → Groups → Place → ℕ → ℕ → Type 0
IsTightIn search groups place so_far next =
    IsTight search.map.now search.class (IsIn groups) place so_far next

-- A line leads on over its end at a length: that is the least length to its start and its own
-- length, and from there a turn to a line of the groups is tight.
pub record LeadsOn (search : Search) (table : ℕ → Option ℕ) (groups : Groups)
    (at_end line at_start : ℕ) : Type 0 where
  pub start : table line ≡ Some at_start
  pub long : at_start + length_at search.map.now line ≡ at_end
  pub next : ℕ
  pub tight : IsTightIn search groups (start_of line) at_start next

-- Of these lines those to which the turn from a place's line isn't banned are just those to which
-- it is tight.
pub record AreTightAhead (search : Search) (groups : Groups) (place : Place) (so_far : ℕ)
    (ahead : List ℕ) : Type 0 where
  pub only : (next : ℕ) → Contains ahead next → IsAllowed search.map.now place.line next
      → IsTightIn search groups place so_far next
  pub each : (next : ℕ) → IsTightIn search groups place so_far next → Contains ahead next

-- a rank was found that is at most this one
abbrev pub HasUpTo : Option ℕ → ℕ → Type 0
HasUpTo found rank = MatchOption found ⊥ (λ least. least ≤ rank)

-- the line of least rank to which a turn is tight, if there is one
abbrev pub IsFirstTight : Search → Groups → Place → ℕ → Option ℕ → Type 0
IsFirstTight search groups place so_far found =
    MatchOption found ((next : ℕ) → IsTightIn search groups place so_far next → ⊥)
    (λ first. IsTightIn search groups place so_far first
    × ((next : ℕ) → IsTightIn search groups place so_far next → first ≤ next))

-- the lines that follow where each turn is the first tight one, until there is none
abbrev pub AreFirstTight : Search → Groups → Place → ℕ → List ℕ → Type 0
AreFirstTight search groups place so_far [] = IsFirstTight search groups place so_far None
AreFirstTight search groups place so_far (next ∷ rest) =
    IsFirstTight search groups place so_far (Some next)
    × AreFirstTight search groups (start_of next) (so_far + rest_of_line search.map.now place)
    rest

-- the pieces of a walk from one place to another over the lines that follow where each turn is the
-- first tight one from where the search started
pub record FollowsFirstTight (search : Search) (groups : Groups) (from to : Place)
    (pieces : List Piece) : Type 0 where
  pub behind : List ℕ
  pub tight : AreFirstTight search groups search.from 0 behind
  pub pieces_are : pieces ≡ pieces_of search.map.now from to behind
