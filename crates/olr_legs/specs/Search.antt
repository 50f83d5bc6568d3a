-- What is asked of a search that goes backwards from a place, and which lines it may go over.
-- Lengths are in decimetres.
use Rattle.std.specs.Prelude.{◌≡◌, ℕ, ◌+◌, ◌≤◌, List, None, All}
use Rattle.olr_road.specs.Place.{IsPlace}
use Rattle.olr_road.specs.RoadMap.{RoadMap}
use Rattle.olr_road.specs.declared.place.Place.{Place}
use Rattle.olr_route.specs.Reach.{AreLengthsOn}
use Rattle.olr_route.specs.Turn.{IsOpen}
use Rattle.olr_route.specs.Walk.{IsDrivable, IsWalk, LeadTo, length_at, pieces_of, start_of, walk_length}
use Rattle.olr_route.specs.declared.piece.Piece.{Piece}
use Rattle.olr_legs.specs.Avoiding.{IsClearOf}
use Rattle.olr_legs.specs.declared.search.Search.{Search}

-- the lengths are those of the map from one place to the starts of all lines, as far as the bound,
-- and the other place is on the map
pub record IsReady (search : Search) : Type 0 where
  pub held : AreLengthsOn search.map.now search.reach.now
  pub all : search.reach.now.asked ≡ None
  pub far : search.bound ≤ search.reach.now.limit
  pub to : IsPlace search.map.now search.to

-- the place from which the walks go
abbrev pub from_of : Search → Place
from_of search = search.reach.now.from

-- the piece to the place where the walks end, from the start of its line
abbrev pub last_piece : Search → Piece
last_piece search = record { line = search.to.line; from = 0; to = search.to.at }

-- the piece of a line from a position to its end
abbrev pub piece_to_end : RoadMap → ℕ → ℕ → Piece
piece_to_end road line from = record { line = line; from = from; to = length_at road line }

-- The search may go over the whole line: the class limit lets it through, it is clear of the pieces
-- that are shut, and some walk to its start leaves so many decimetres at most with the line.
pub record MayPrecede (search : Search) (line most : ℕ) : Type 0 where
  pub opened : IsOpen search.map.now search.reach.now.class line
  pub clear : IsClearOf search.shut.now (piece_to_end search.map.now line 0)
  pub before : List ℕ
  pub is : IsWalk search.map.now search.reach.now.class (from_of search) (start_of line) before
  pub within : walk_length search.map.now (from_of search) (start_of line) before
      + length_at search.map.now line ≤ most

-- The last piece of the walks, from the start of its line: the class limit lets it through, it is
-- clear of the pieces that are shut, and within the bound.
pub record MayEnd (search : Search) : Type 0 where
  pub drivable : IsDrivable search.map.now search.reach.now.class (last_piece search)
  pub clear : IsClearOf search.shut.now (last_piece search)
  pub within : search.to.at ≤ search.bound

-- These lines behind its own lead from a place to where the walks end; they are clear of the pieces
-- that are shut, and this is the length, which is within the bound.
pub record LeadsOn (search : Search) (place : Place) (length : ℕ) (behind : List ℕ) : Type 0 where
  pub on : LeadTo search.map.now search.reach.now.class place search.to behind
  pub clear : All (IsClearOf search.shut.now) (pieces_of search.map.now place search.to behind)
  pub long : walk_length search.map.now place search.to behind ≡ length
  pub within : length ≤ search.bound
