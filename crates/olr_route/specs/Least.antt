-- The least length of the walks from one place to another, in decimetres.
use Rattle.std.specs.Prelude.{◌≡◌, ℕ, ◌<◌, ◌≤◌, List, Option, MatchOption}
use Rattle.olr_road.specs.RoadMap.{RoadMap}
use Rattle.olr_road.specs.declared.place.Place.{Place}
use Rattle.olr_route.specs.Walk.{IsWalk, walk_length}

-- Some walk has this length, and none is shorter. A walk is given by the lines behind its first one
-- (see Walk).
pub record IsLeastLength (road : RoadMap) (class : ℕ) (from to : Place) (length : ℕ) : Type 0 where
  pub behind : List ℕ
  pub is : IsWalk road class from to behind
  pub long : walk_length road from to behind ≡ length
  pub least : (other : List ℕ) → IsWalk road class from to other
      → length ≤ walk_length road from to other

-- no walk is within the limit: there is none, or each is longer
abbrev pub HasNoWalkWithin : RoadMap → ℕ → Place → Place → ℕ → Type 0
HasNoWalkWithin road class from to limit = (behind : List ℕ) → IsWalk road class from to behind
    → limit < walk_length road from to behind

-- the answer is the least length where this is at most the limit, else none
abbrev pub IsLengthWithin : RoadMap → ℕ → Place → Place → ℕ → Option ℕ → Type 0
IsLengthWithin road class from to limit answer =
    MatchOption answer (HasNoWalkWithin road class from to limit)
    (λ length. IsLeastLength road class from to length × (length ≤ limit))
