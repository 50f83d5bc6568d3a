-- The location of a reference on the route of its legs. (The offsets are the white paper's, in its
-- binary format version 3; that they are shares of the first and of the last leg is this project's
-- reading.) Lengths and distances are in decimetres.
use Rattle.std.specs.Prelude.{◌≡◌, ℕ, ◌+◌, ◌-◌, ◌*◌, ◌/◌, ◌^◌, ◌<◌, ◌≤◌, List, length, Option, None, Some, MatchOption, All, option_map, slice_get, unwrap_or}
use Rattle.std.specs.Global.{Vec}
use Rattle.std.specs.Int.{div_ceil}
use Rattle.std.specs.List.{sum_by}
use Rattle.olr_binary.specs.Reference.{points_of}
use Rattle.olr_report.specs.Common.{Leg, Piece, Place, Reference}
use Rattle.olr_binary.specs.declared.reference.Reference.TheVariants.{Line, PointAlong}
use Rattle.olr_route.specs.Walk.{piece_length}
use Rattle.olr_report.specs.Joined.{AreForwards, IsTrimmedPart}
use Rattle.olr_report.specs.Steps.{Step, place_at, steps_of_legs}
use Rattle.olr_report.specs.declared.locating.Located.{Located}
use Rattle.olr_report.specs.declared.locating.Located.TheVariants as returned

-- ---- legs

-- the leg's length is that of its route, at least one decimetre and below 2^20
pub record IsMeasured (leg : Leg) : Type 0 where
  pub length_is : leg.length ≡ sum_by piece_length leg.route
  pub at_least : 1 ≤ leg.length
  pub below : leg.length < 2 ^ 20

-- the legs between the points of a reference, one fewer than its points, with their lengths; no
-- piece goes backwards
pub record AreLegsOf (reference : Reference) (legs : List Leg) : Type 0 where
  pub count : length legs + 1 ≡ length (points_of reference)
  pub measured : All IsMeasured legs
  pub forwards : AreForwards legs

-- the length of the leg of this index, 0 where there is none
abbrev pub leg_length : List Leg → ℕ → ℕ
leg_length legs index = unwrap_or (option_map (λ (leg : Leg). leg.length) (slice_get legs index)) 0

abbrev pub first_length : List Leg → ℕ
first_length legs = leg_length legs 0

abbrev pub last_length : List Leg → ℕ
last_length legs = leg_length legs (length legs - 1)

-- ---- offsets

-- An offset n is a share of a leg's length from n/256 (included) to (n + 1)/256 (excluded). Its
-- earliest distance, rounded down; 0 without an offset.
abbrev pub earliest_offset : Option ℕ → ℕ → ℕ
earliest_offset None length = 0
earliest_offset (Some share) length = share * length / 256

-- its latest distance, rounded up
abbrev pub latest_offset : Option ℕ → ℕ → ℕ
latest_offset None length = 0
latest_offset (Some share) length = div_ceil ((share + 1) * length) 256

-- ---- a location as a value

-- the outer and the inner part of a line, or the earliest and the latest place of a point along a
-- line
pub data LocatedValue : Type 0 where
  LocatedLine : Option (List Piece) → Option (List Piece) → LocatedValue
  LocatedPoint : Place → Place → LocatedValue

-- the pieces of a part, if there is one
abbrev pub pieces_if_any : Option (Vec Piece) → Option (List Piece)
pieces_if_any part = option_map (λ (part : Vec Piece). part.items) part

-- the location that a call returned
abbrev pub located_value : Located → LocatedValue
located_value (returned.Line outer inner) =
    LocatedLine (pieces_if_any outer) (pieces_if_any inner)
located_value (returned.Point earliest latest) = LocatedPoint earliest latest

-- ---- the location

-- The part of steps that leaves out this many at the beginning and this many at the end. None where
-- that leaves no step.
abbrev pub IsPartBetween : List Step → ℕ → ℕ → Option (List Piece) → Type 0
IsPartBetween steps before behind answer = MatchOption answer (length steps ≤ before + behind)
    (λ part. (before + behind < length steps)
    × IsTrimmedPart steps before (length steps - behind) part)

-- The outer part takes the earliest offsets, the inner one the latest. The positive offset is a
-- share of the first leg, the negative one of the last.
pub record IsLineLocation (legs : List Leg) (positive negative : Option ℕ)
    (outer inner : Option (List Piece)) : Type 0 where
  pub outer_part : IsPartBetween (steps_of_legs legs) (earliest_offset positive (first_length legs))
      (earliest_offset negative (last_length legs)) outer
  pub inner_part : IsPartBetween (steps_of_legs legs) (latest_offset positive (first_length legs))
      (latest_offset negative (last_length legs)) inner

-- the two places of a point along a line, at the earliest and at the latest distance of the
-- positive offset
pub record IsPointLocation (legs : List Leg) (positive : Option ℕ) (earliest latest : Place) : Type
    0 where
  pub earliest_place : place_at (steps_of_legs legs) (earliest_offset positive (first_length legs))
      ≡ Some earliest
  pub latest_place : place_at (steps_of_legs legs) (latest_offset positive (first_length legs))
      ≡ Some latest

-- the location of a reference on the route of these legs
abbrev pub IsLocation : List Leg → Reference → LocatedValue → Type 0
IsLocation legs (Line points positive negative) (LocatedLine outer inner) =
    IsLineLocation legs positive negative outer inner
IsLocation legs (Line points positive negative) (LocatedPoint earliest latest) = ⊥
IsLocation legs (PointAlong points orientation side positive) (LocatedLine outer inner) = ⊥
IsLocation legs (PointAlong points orientation side positive) (LocatedPoint earliest latest) =
    IsPointLocation legs positive earliest latest
