-- The route from one place to another: the one walk of least length that is chosen.
use Rattle.std.specs.Prelude.{◌≡◌, ℕ, ◌<◌, ◌≤◌, ◌⊎◌, ⊤, List, [], ◌∷◌, map, Some, slice_get, option_map, unwrap_or, All}
use Rattle.std.specs.List.{sum_by}
use Rattle.olr_road.specs.RoadMap.{RoadMap}
use Rattle.olr_road.specs.RoadMap.{RoadLine}
use Rattle.olr_road.specs.declared.place.Place.{Place}
use Rattle.olr_route.specs.declared.piece.Piece.{Piece}
use Rattle.olr_route.specs.Turn.{IsTurn}
use Rattle.olr_route.specs.Walk.{length_at, IsWalk, pieces_of, piece_length, walk_length}
use Rattle.olr_route.specs.Least.{IsLeastLength}

-- the id of a line, 0 where there is no line of this rank
abbrev pub id_at : RoadMap → ℕ → ℕ
id_at road rank = unwrap_or (option_map (λ (line : RoadLine). line.id) (slice_get road.lines rank))
    0

-- the ids of the lines of a walk
abbrev pub ids_of : RoadMap → List ℕ → List ℕ
ids_of road behind = map (λ (rank : ℕ). id_at road rank) behind

-- Lexicographic order: a list of ids comes before another one, or is the same.
abbrev pub IsUpTo : List ℕ → List ℕ → Type 0
IsUpTo [] others = ⊤
IsUpTo (id ∷ ids) [] = ⊥
IsUpTo (id ∷ ids) (other ∷ others) = (id < other) ⊎ ((id ≡ other) × IsUpTo ids others)

-- A walk of least length, and the first of those by the ids of their lines. It is given by the
-- lines behind its first one, which is the same for all walks from the place.
pub record IsRoute (road : RoadMap) (class : ℕ) (from to : Place) (behind : List ℕ) : Type 0 where
  pub is : IsWalk road class from to behind
  pub least : (other : List ℕ) → IsWalk road class from to other
      → walk_length road from to behind ≤ walk_length road from to other
  pub first : (other : List ℕ) → IsWalk road class from to other
      → walk_length road from to other ≡ walk_length road from to behind
      → IsUpTo (ids_of road behind) (ids_of road other)

-- these are the pieces of the route, whose length is at most the limit
pub record IsRouteWithin (road : RoadMap) (class : ℕ) (from to : Place) (limit : ℕ)
    (pieces : List Piece) : Type 0 where
  pub behind : List ℕ
  pub is : IsRoute road class from to behind
  pub within : walk_length road from to behind ≤ limit
  pub pieces_are : pieces ≡ pieces_of road from to behind

-- ---- what holds of the pieces of every route

-- A piece lies on the map: on one of its lines, not past that line's end, and it doesn't go
-- backwards.
pub record IsPieceOn (road : RoadMap) (piece : Piece) : Type 0 where
  pub line : RoadLine
  pub at_rank : slice_get road.lines piece.line ≡ Some line
  pub forwards : piece.from ≤ piece.to
  pub up_to_end : piece.to ≤ line.length

-- Each piece goes on where the one before it stops: that one goes to the end of its line, a turn
-- leads from there to the line of this one, and this one begins at the start of its line.
abbrev pub AreJoined : RoadMap → List Piece → Type 0
AreJoined road [] = ⊤
AreJoined road (piece ∷ []) = ⊤
AreJoined road (piece ∷ next ∷ rest) =
    (piece.to ≡ length_at road piece.line) × IsTurn road piece.line next.line × (next.from ≡ 0)
    × AreJoined road (next ∷ rest)

-- The pieces lie on the map, each goes on where the one before it stops, and the sum of their
-- lengths is the least length, at least one decimetre.
pub record AreRoutePieces (road : RoadMap) (class : ℕ) (from to : Place)
    (pieces : List Piece) : Type 0 where
  pub on_map : All (IsPieceOn road) pieces
  pub joined : AreJoined road pieces
  pub least : IsLeastLength road class from to (sum_by piece_length pieces)
  pub positive : 1 ≤ sum_by piece_length pieces
