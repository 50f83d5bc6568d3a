-- Another path of a leg: a walk between its places that leaves out a stretch of its route, and is
-- hardly longer. (That a path is another one by such a stretch, and how much longer it may be, are
-- this project's choice.) Lengths are in decimetres.
use Rattle.std.specs.Prelude.{◌≡◌, ℕ, ◌+◌, ◌-◌, ◌*◌, ◌≤◌, ◌⊎◌, ⊤, List}
use Rattle.olr_places.specs.Missing.{missing_of}
use Rattle.olr_road.specs.RoadMap.{RoadMap}
use Rattle.olr_road.specs.declared.place.Place.{Place}
use Rattle.olr_route.specs.Route.{IsUpTo, ids_of}
use Rattle.olr_route.specs.Walk.{IsWalk, pieces_of, walk_length}
use Rattle.olr_route.specs.declared.piece.Piece.{Piece}
use Rattle.olr_legs.specs.Stretches.{least_missed}
use Rattle.olr_legs.specs.declared.other.Other.{Other}
use Rattle.olr_legs.specs.declared.other.Other.TheVariants.{Cut, Nothing, Path}
use Rattle.olr_legs.specs.declared.other.OtherPath.{OtherPath}

module _ (road : RoadMap) (class : ℕ) (from to : Place) (route : List Piece) where
  -- A walk that misses at least 200 decimetres in a row of the route. It is given by the lines behind
  -- its first one.
  pub record IsApart (behind : List ℕ) : Type 0 where
    pub is : IsWalk road class from to behind
    pub misses : least_missed ≤ missing_of (pieces_of road from to behind) route

  -- The one of least length of such walks, and the first of those by the ids of their lines.
  pub record IsFirstApart (behind : List ℕ) : Type 0 where
    pub apart : IsApart behind
    pub least : (other : List ℕ) → IsApart other
        → walk_length road from to behind ≤ walk_length road from to other
    pub first : (other : List ℕ) → IsApart other
        → walk_length road from to other ≡ walk_length road from to behind
        → IsUpTo (ids_of road behind) (ids_of road other)

-- A walk is by so much longer than a leg of this length, and that is at most so many thousandths of
-- the leg's length, or at most 10.
abbrev pub IsHardlyLonger : ℕ → ℕ → ℕ → Type 0
IsHardlyLonger near length longer = (1000 * longer ≤ near * length) ⊎ (longer ≤ 10)

module _ (road : RoadMap) (class : ℕ) (from to : Place) (route : List Piece) (length near : ℕ) where
  -- the first walk that is apart from the leg's route, where it is hardly longer
  pub record IsOtherPath (path : OtherPath) : Type 0 where
    pub behind : List ℕ
    pub is : IsFirstApart road class from to route behind
    pub long : walk_length road from to behind ≡ length + path.longer
    pub hardly_longer : IsHardlyLonger near length path.longer
    pub pieces_are : path.pieces.items ≡ pieces_of road from to behind

  -- The other path of a leg with this route and length, or none where each walk that is apart is
  -- longer. Nothing is said where the search was cut.
  abbrev pub IsOther : Other → Type 0
  IsOther Cut = ⊤
  IsOther Nothing = (behind : List ℕ) → IsApart road class from to route behind
      → IsHardlyLonger near length (walk_length road from to behind - length) → ⊥
  IsOther (Path path) = IsOtherPath path
