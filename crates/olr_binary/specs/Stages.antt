-- What each stage of decoding has found, and which refusals it has ruled out. Only the contracts of
-- these stages use this file: the rules are in the other files, by the status byte, and here by the
-- location type that it gives.
use Rattle.std.specs.Prelude.{◌≡◌, ℕ, ◌+◌, ◌<◌, ◌≤◌, List, length}
use Rattle.olr_binary.specs.declared.status.LocationType.{LocationType}
use Rattle.olr_binary.specs.declared.status.LocationType.TheVariants.{Line, PointAlong}
use Rattle.olr_binary.specs.declared.refusal.Refused.{Refused}
use Rattle.olr_binary.specs.declared.refusal.Refused.TheVariants.{OutOfRange}
use Rattle.olr_binary.specs.Bits.{line_offsets, point_along_offsets}
use Rattle.olr_binary.specs.Layout.{IsLayout, last_attribute_of}
use Rattle.olr_binary.specs.Reference.{IsLineStatus, IsPointStatus}
use Rattle.olr_binary.specs.Refusal.{BytesCondition, IsLineSize, IsPointAlongSize, order_of, IsFirstOutOfRange}

-- no refusal before this one in the order of the checks holds
abbrev pub NoneBefore : List ℕ → ℕ → Type 0
NoneBefore bytes number = (refused : Refused) → order_of refused < number
    → BytesCondition bytes refused → ⊥

-- the status byte of a location type
abbrev pub HasType : ℕ → LocationType → Type 0
HasType status Line = IsLineStatus status
HasType status PointAlong = IsPointStatus status

-- a number of bytes that a location type can have
abbrev pub IsSizeOf : LocationType → ℕ → Type 0
IsSizeOf Line size = IsLineSize size
IsSizeOf PointAlong size = IsPointAlongSize size

-- the number of offset bytes by the flags of the last point
abbrev pub flags_of : LocationType → ℕ → ℕ
flags_of Line attribute = line_offsets attribute
flags_of PointAlong attribute = point_along_offsets attribute

-- a point along a line has two points
abbrev pub HasTwoPoints : LocationType → ℕ → Type 0
HasTwoPoints Line count = Unit {0}
HasTwoPoints PointAlong count = count ≡ 2

-- the number of points of a location, whose offset bytes are those of its flags
pub record HasCount (bytes : List ℕ) (location : LocationType) (count : ℕ) : Type 0 where
  pub offsets : ℕ
  pub layout : IsLayout (length bytes) count offsets
  pub at_most : count ≤ 32
  pub flags : offsets ≡ flags_of location (last_attribute_of bytes count)
  pub along : HasTwoPoints location count

-- the refusal of the first point, of `count`, outside the ranges of coordinates
abbrev pub IsOutOfRangeAt : List ℕ → ℕ → Refused → Type 0
IsOutOfRangeAt bytes count refused = (i : ℕ) × (refused ≡ OutOfRange (i + 1)) × (i < count)
    × IsFirstOutOfRange bytes i
