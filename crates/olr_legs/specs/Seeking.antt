-- The first of the walks that miss a stretch of a route, sought stretch by stretch. Lengths are in
-- decimetres.
use Rattle.std.specs.Prelude.{◌≡◌, ◌≢◌, ℕ, ◌<◌, ◌≤◌, ◌⊎◌, List, [], All, Contains, None}
use Rattle.std.specs.List.{sum_by}
use Rattle.olr_report.specs.Joined.{IsForwards}
use Rattle.olr_road.specs.Place.{IsPlace}
use Rattle.olr_road.specs.RoadMap.{RoadMap}
use Rattle.olr_road.specs.declared.place.Place.{Place}
use Rattle.olr_route.specs.Route.{IsUpTo, ids_of}
use Rattle.olr_route.specs.Reach.{AreLengthsOn}
use Rattle.olr_route.specs.Walk.{IsWalk, piece_length, pieces_of, walk_length}
use Rattle.olr_route.specs.declared.piece.Piece.{Piece}
use Rattle.olr_legs.specs.Avoiding.{most_turns}
use Rattle.olr_legs.specs.Stretches.{AreMissedFrom}
use Rattle.olr_legs.specs.Way.{IsUpToWay}
use Rattle.olr_legs.specs.declared.avoiding.Sought.{Sought}
use Rattle.olr_legs.specs.declared.avoiding.Sought.TheVariants.{Cut, Nothing, Found}
use Rattle.olr_legs.specs.declared.seeking.Seek.{Seek}
use Rattle.olr_legs.specs.declared.way.Way.{Way}

-- ---- the order of walks

-- one is shorter than another, or as long and not behind it by the ids of its lines
abbrev pub IsNotBehind : RoadMap → Place → Place → List ℕ → List ℕ → Type 0
IsNotBehind road from to one other =
    (walk_length road from to one < walk_length road from to other)
    ⊎ ((walk_length road from to one ≡ walk_length road from to other)
    × IsUpTo (ids_of road one) (ids_of road other))

-- one of two walks, which isn't behind either of them by the lengths that are at hand and the ranks
-- of the lines
pub record IsFirstOf (one other first : Way) : Type 0 where
  pub either : (first ≡ one) ⊎ (first ≡ other)
  pub up_to_one : IsUpToWay first.length first.behind.items one.length one.behind.items
  pub up_to_other : IsUpToWay first.length first.behind.items other.length other.behind.items

-- ---- what is sought

-- walks over two lines or more that miss a stretch of a route which begins at one of these steps
pub record IsMissing (road : RoadMap) (class : ℕ) (from to : Place) (route : List Piece)
    (starts : List ℕ) (behind : List ℕ) : Type 0 where
  pub is : IsWalk road class from to behind
  pub leaves_line : behind ≢ []
  pub start : ℕ
  pub among : Contains starts start
  pub missed : AreMissedFrom (pieces_of road from to behind) route start

module _ (road : RoadMap) (from to : Place) (Holds : List ℕ → Type 0) (bound : ℕ) where
  -- the first of the walks of which something holds, where it is within the bound
  pub record IsFirstWithin (way : Way) : Type 0 where
    pub holds : Holds way.behind.items
    pub long : walk_length road from to way.behind.items ≡ way.length
    pub within : way.length ≤ bound
    pub first : (other : List ℕ) → Holds other → IsNotBehind road from to way.behind.items other

  -- What a search for it came to, when so many turns had been looked at.
  abbrev pub IsSoughtFor : ℕ → Sought → Type 0
  IsSoughtFor turns Cut = most_turns < turns
  IsSoughtFor turns Nothing = (turns ≤ most_turns)
      × ((behind : List ℕ) → Holds behind → bound < walk_length road from to behind)
  IsSoughtFor turns (Found way) = (turns ≤ most_turns) × IsFirstWithin way

-- ---- two searches

-- the bound of the next search: a walk that is longer than the one that was found doesn't matter
abbrev pub next_bound : ℕ → Sought → ℕ
next_bound bound Cut = bound
next_bound bound Nothing = bound
next_bound bound (Found way) = way.length

-- what two searches came to together, of which the second one was made if the first wasn't cut
abbrev pub IsBoth : Sought → Sought → Sought → Type 0
IsBoth first Cut both = both ≡ Cut
IsBoth first Nothing both = both ≡ first
IsBoth (Found one) (Found other) both = (way : Way) × IsFirstOf one other way × (both ≡ Found way)
IsBoth Nothing (Found other) both = both ≡ Found other
IsBoth Cut (Found other) both = both ≡ Cut

-- ---- what is asked

-- Lengths from a place to all lines of the map are at hand, and a route whose pieces don't go
-- backwards, with its length.
pub record IsSeek (seek : Seek) : Type 0 where
  pub held : AreLengthsOn seek.map.now seek.reach.now
  pub all : seek.reach.now.asked ≡ None
  pub to : IsPlace seek.map.now seek.to
  pub forwards : All IsForwards seek.route.now
  pub length_is : seek.length ≡ sum_by piece_length seek.route.now

-- walks between its places that miss a stretch of its route from one of these steps on
abbrev pub IsMissingOf : Seek → List ℕ → List ℕ → Type 0
IsMissingOf seek starts behind = IsMissing seek.map.now seek.reach.now.class seek.reach.now.from
    seek.to seek.route.now starts behind

-- what the search for the first of them came to
abbrev pub IsSoughtOf : Seek → List ℕ → ℕ → ℕ → Sought → Type 0
IsSoughtOf seek starts bound turns sought = IsSoughtFor seek.map.now seek.reach.now.from seek.to
    (IsMissingOf seek starts) bound turns sought
