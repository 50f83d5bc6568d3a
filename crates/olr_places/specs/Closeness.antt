-- Which matchings are close: those that cover the same stretch of road, but for parts of a given
-- length. Lengths and positions are in decimetres.
use Rattle.std.specs.Prelude.{◌≡◌, ℕ, ◌+◌, ◌≤◌, Bool, false, ◌&&◌, ◌==◌, nat_le, List, [], Option, unwrap_or}
use Rattle.olr_road.specs.declared.place.Place.{Place}
use Rattle.olr_route.specs.declared.piece.Piece.{Piece}
use Rattle.olr_report.specs.Location.{LocatedLine, LocatedPoint, LocatedValue}
use Rattle.olr_report.specs.Steps.{steps_of}
use Rattle.olr_places.specs.Missing.{MissesAtMost, missing_of}

-- the ground that a matching covers: the pieces of the outer part of a line, or the earliest and
-- the latest place of a point along a line
pub data Ground : Type 0 where
  line : List Piece → Ground
  point : Place → Place → Ground

-- the pieces of a part of a route; no pieces where there is no part
abbrev pub pieces_of : Option (List Piece) → List Piece
pieces_of part = unwrap_or part []

-- the ground of a location
abbrev pub ground_of : LocatedValue → Ground
ground_of (LocatedLine outer inner) = line (pieces_of outer)
ground_of (LocatedPoint earliest latest) = point earliest latest

-- two places lie on one line, and are at most so far apart
pub record IsNear (apart : ℕ) (one other : Place) : Type 0 where
  pub on_line : one.line ≡ other.line
  pub behind : one.at ≤ other.at + apart
  pub before : other.at ≤ one.at + apart

-- Two lines are close where neither outer part misses more of the other; two points along a line
-- where their earliest places are near, and their latest.
abbrev pub IsClose : ℕ → Ground → Ground → Type 0
IsClose apart (line one) (line other) = MissesAtMost (steps_of one) (steps_of other) apart
    × MissesAtMost (steps_of other) (steps_of one) apart
IsClose apart (line one) (point earliest latest) = ⊥
IsClose apart (point earliest latest) (line other) = ⊥
IsClose apart (point earliest latest) (point other_earliest other_latest) =
    IsNear apart earliest other_earliest × IsNear apart latest other_latest

-- ---- the same, as a test that computes

-- whether two places are near
abbrev pub is_near : ℕ → Place → Place → Bool
is_near apart one other = (one.line == other.line)
    && (nat_le one.at (other.at + apart) && nat_le other.at (one.at + apart))

-- whether neither part misses more of the other
abbrev pub are_alike : ℕ → List Piece → List Piece → Bool
are_alike apart one other = nat_le (missing_of one other) apart
    && nat_le (missing_of other one) apart

-- whether two matchings are close, by the ground that they cover
abbrev pub is_close : ℕ → Ground → Ground → Bool
is_close apart (line one) (line other) = are_alike apart one other
is_close apart (line one) (point earliest latest) = false
is_close apart (point earliest latest) (line other) = false
is_close apart (point earliest latest) (point other_earliest other_latest) =
    is_near apart earliest other_earliest && is_near apart latest other_latest
