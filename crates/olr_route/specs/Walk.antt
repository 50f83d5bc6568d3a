-- Walks from one place of a map to another (that a decoder joins candidates by a shortest path is
-- the white paper's; which walks count is this project's choice). Lines are named by their ranks,
-- lengths and positions are in decimetres.
use Rattle.std.specs.Prelude.{◌≡◌, ℕ, ◌-◌, ◌<◌, ⊤, List, [], ◌∷◌, slice_get, option_map, unwrap_or, All}
use Rattle.std.specs.List.{sum_by}
use Rattle.olr_road.specs.RoadMap.{RoadMap}
use Rattle.olr_road.specs.RoadMap.{RoadLine}
use Rattle.olr_road.specs.declared.place.Place.{Place}
use Rattle.olr_route.specs.declared.piece.Piece.{Piece}
use Rattle.olr_route.specs.Turn.{IsTurn, IsOpen}

-- the place where a line starts
abbrev pub start_of : ℕ → Place
start_of line = record { line = line; at = 0 }

-- the length of a line, 0 where there is no line of this rank
abbrev pub length_at : RoadMap → ℕ → ℕ
length_at road rank = unwrap_or
    (option_map (λ (line : RoadLine). line.length) (slice_get road.lines rank)) 0

-- A walk is given by its first line and the lines behind it. From each line a turn leads to the
-- next one.
abbrev pub AreTurns : RoadMap → ℕ → List ℕ → Type 0
AreTurns road line [] = ⊤
AreTurns road line (next ∷ behind) = IsTurn road line next × AreTurns road next behind

-- the last line of a walk
abbrev pub last_line : ℕ → List ℕ → ℕ
last_line line [] = line
last_line line (next ∷ behind) = last_line next behind

-- The pieces of a walk that begins at `from` on its first line and stops at `to` on its last one:
-- each line to its end, from the second one on from its start.
abbrev pub pieces_from : RoadMap → ℕ → ℕ → List ℕ → ℕ → List Piece
pieces_from road line from [] to = record { line = line; from = from; to = to } ∷ []
pieces_from road line from (next ∷ behind) to =
    record { line = line; from = from; to = length_at road line }
    ∷ pieces_from road next 0 behind to

-- the pieces of a walk from one place to another over the line of the first and then the lines
-- `behind` it
abbrev pub pieces_of : RoadMap → Place → Place → List ℕ → List Piece
pieces_of road from to behind = pieces_from road from.line from.at behind to.at

abbrev pub piece_length : Piece → ℕ
piece_length piece = piece.to - piece.from

-- its length: the sum of those of its pieces
abbrev pub walk_length : RoadMap → Place → Place → List ℕ → ℕ
walk_length road from to behind = sum_by piece_length (pieces_of road from to behind)

-- a piece of positive length lies on a line that the class limit lets through; an empty one may lie
-- on any line
abbrev pub IsDrivable : RoadMap → ℕ → Piece → Type 0
IsDrivable road class piece = piece.from < piece.to → IsOpen road class piece.line

-- These lines lead from a place to another one under a class limit, behind the line of the first: a
-- turn leads from each line to the next, and the last one is the line of the second place.
pub record LeadTo (road : RoadMap) (class : ℕ) (from to : Place) (behind : List ℕ) : Type 0 where
  pub turns : AreTurns road from.line behind
  pub ends : last_line from.line behind ≡ to.line
  pub drivable : All (IsDrivable road class) (pieces_of road from to behind)

-- A walk from one place to another: the lines `behind` its first one lead there. A walk over one
-- line alone goes forwards on it.
pub record IsWalk (road : RoadMap) (class : ℕ) (from to : Place) (behind : List ℕ) : Type 0 where
  pub on : LeadTo road class from to behind
  pub forwards : behind ≡ [] → from.at < to.at
