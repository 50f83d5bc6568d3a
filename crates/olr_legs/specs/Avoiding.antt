-- Walks that leave out some pieces of lines. Lengths and positions are in decimetres.
use Rattle.std.specs.Prelude.{◌≡◌, ◌≢◌, ℕ, ◌<◌, ◌≤◌, List, [], All}
use Rattle.olr_road.specs.RoadMap.{RoadMap}
use Rattle.olr_road.specs.declared.place.Place.{Place}
use Rattle.olr_route.specs.Route.{IsUpTo, ids_of}
use Rattle.olr_route.specs.Walk.{IsWalk, pieces_of, walk_length}
use Rattle.olr_route.specs.declared.piece.Piece.{Piece}
use Rattle.olr_legs.specs.declared.avoiding.Sought.{Sought}
use Rattle.olr_legs.specs.declared.avoiding.Sought.TheVariants.{Cut, Nothing, Found}

-- the decimetre of a line that begins at this position belongs to the piece
pub record HasDecimetre (piece : Piece) (line at : ℕ) : Type 0 where
  pub on : piece.line ≡ line
  pub behind_from : piece.from ≤ at
  pub before_to : at < piece.to

-- some decimetre of a line belongs to both pieces
pub record AreOverlapping (one other : Piece) : Type 0 where
  pub line : ℕ
  pub at : ℕ
  pub in_one : HasDecimetre one line at
  pub in_other : HasDecimetre other line at

-- no decimetre of a piece belongs to one of the pieces that are shut
abbrev pub IsClearOf : List Piece → Piece → Type 0
IsClearOf shut piece = All (λ (other : Piece). AreOverlapping other piece → ⊥) shut

-- A walk over two lines or more that has no decimetre of the pieces that are shut. It is given by
-- the lines behind its first one.
pub record IsAvoiding (road : RoadMap) (class : ℕ) (from to : Place) (shut : List Piece)
    (behind : List ℕ) : Type 0 where
  pub is : IsWalk road class from to behind
  pub leaves_line : behind ≢ []
  pub clear : All (IsClearOf shut) (pieces_of road from to behind)

-- The one of least length of such walks, where that is at most the bound; of those of the same
-- length the first by the ids of their lines.
pub record IsFirstAvoiding (road : RoadMap) (class : ℕ) (from to : Place) (shut : List Piece)
    (bound : ℕ) (behind : List ℕ) : Type 0 where
  pub is : IsAvoiding road class from to shut behind
  pub within : walk_length road from to behind ≤ bound
  pub least : (other : List ℕ) → IsAvoiding road class from to shut other
      → walk_length road from to behind ≤ walk_length road from to other
  pub first : (other : List ℕ) → IsAvoiding road class from to shut other
      → walk_length road from to other ≡ walk_length road from to behind
      → IsUpTo (ids_of road behind) (ids_of road other)

-- there is no such walk, or each one is longer than the bound
abbrev pub HasNoAvoidingWithin : RoadMap → ℕ → Place → Place → List Piece → ℕ → Type 0
HasNoAvoidingWithin road class from to shut bound = (behind : List ℕ)
    → IsAvoiding road class from to shut behind → bound < walk_length road from to behind

-- the most turns that searches for walks of one leg may look at
abbrev pub most_turns : ℕ
most_turns = 300000

-- What a search came to, when so many turns had been looked at: more than it may look at; or there
-- is no such walk within the bound; or this is the first one, with its length.
abbrev pub IsSought : RoadMap → ℕ → Place → Place → List Piece → ℕ → ℕ → Sought → Type 0
IsSought road class from to shut bound turns Cut = most_turns < turns
IsSought road class from to shut bound turns Nothing = (turns ≤ most_turns)
    × HasNoAvoidingWithin road class from to shut bound
IsSought road class from to shut bound turns (Found way) = (turns ≤ most_turns)
    × IsFirstAvoiding road class from to shut bound way.behind.items
    × (walk_length road from to way.behind.items ≡ way.length)
