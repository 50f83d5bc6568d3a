-- The reference of a byte list (OpenLR white paper 1.5, binary format version 3).
use Rattle.std.proofs.Props.{props}
use Rattle.std.specs.Prelude.{◌≡◌, ℕ, ◌+◌, ◌<◌, ◌≤◌, ◌==◌, if◌then◌else◌, List, length, slice_get, Some, None, Option, MatchOption, IfSome}
use Rattle.olr_binary.specs.declared.point.Point.{Point}
use Rattle.olr_binary.specs.declared.reference.Reference.{Reference}
use Rattle.olr_binary.specs.declared.reference.Reference.TheVariants.{Line, PointAlong}
use Rattle.olr_binary.specs.Bits.{version_of, area_flags_of, point_flag_of, attribute_flag_of, positive_flag_of, negative_flag_of, line_offsets, point_along_offsets, orientation_or_side_of}
use Rattle.olr_binary.specs.Layout.{IsLayout, status_of, first_attribute_of, last_attribute_of, first_offset_of, second_offset_of}
use Rattle.olr_binary.specs.Point.{ArePoints}

-- the status byte of a line
pub record IsLineStatus (status : ℕ) : Type 0 where
  pub version : version_of status ≡ 3
  pub area : area_flags_of status ≡ 0
  pub point : point_flag_of status ≡ 0
  pub attributes : attribute_flag_of status ≡ 1

-- the status byte of a point along a line, and of a point of interest with an access point
pub record IsPointStatus (status : ℕ) : Type 0 where
  pub version : version_of status ≡ 3
  pub area : area_flags_of status ≡ 0
  pub point : point_flag_of status ≡ 1
  pub attributes : attribute_flag_of status ≡ 1

-- an offset, where its flag is set
abbrev pub offset_of : ℕ → ℕ → Option ℕ
offset_of flag byte = if flag == 1 then Some byte else None

-- The bytes are this line. The positive offset comes before the negative one.
pub record IsLine (bytes : List ℕ) (points : List Point) (positive negative : Option ℕ) : Type 0
  where
    pub status : IsLineStatus (status_of bytes)
    pub offsets : ℕ
    pub layout : IsLayout (length bytes) (length points) offsets
    pub at_most : length points ≤ 32
    pub flags : offsets ≡ line_offsets (last_attribute_of bytes (length points))
    pub each_point : ArePoints bytes points
    pub positive_offset : positive ≡ offset_of
        (positive_flag_of (last_attribute_of bytes (length points)))
        (first_offset_of bytes (length points))
    pub negative_offset : negative ≡ offset_of
        (negative_flag_of (last_attribute_of bytes (length points)))
        (if positive_flag_of (last_attribute_of bytes (length points)) == 1 then second_offset_of
        bytes (length points) else first_offset_of bytes (length points))

-- The bytes are this point along a line, of two points and at most one offset.
pub record IsPointAlong (bytes : List ℕ) (points : List Point) (orientation side : ℕ)
    (positive : Option ℕ) : Type 0 where
  pub status : IsPointStatus (status_of bytes)
  pub two : length points ≡ 2
  pub size : length bytes ≡ 16 + point_along_offsets (last_attribute_of bytes 2)
  pub each_point : ArePoints bytes points
  pub orientation_bits : orientation ≡ orientation_or_side_of (first_attribute_of bytes 0)
  pub side_bits : side ≡ orientation_or_side_of (first_attribute_of bytes 1)
  pub positive_offset : positive ≡ offset_of (positive_flag_of (last_attribute_of bytes 2))
      (first_offset_of bytes 2)

-- the bytes are this reference
abbrev pub IsReferenceOf : List ℕ → Reference → Type 0
IsReferenceOf bytes (Line points positive negative) = IsLine bytes points.items positive negative
IsReferenceOf bytes (PointAlong points orientation side positive) =
    IsPointAlong bytes points.items orientation side positive

-- ---- every reference, whatever its bytes

-- each point but the last has attributes of the path to the next one
abbrev pub AreLinked : List Point → Type 0
AreLinked points = (i : ℕ) (point : Point) → slice_get points i ≡ Some point
    → MatchOption point.next (i + 1 ≡ length points) (λ _. i + 1 < length points)

-- an offset, where there is one, fits a byte
abbrev pub IsOffset : Option ℕ → Type 0
IsOffset offset = IfSome offset (λ share. share < 256)

-- two points or more
pub record IsLineReference (points : List Point) (positive negative : Option ℕ) : Type 0 where
  pub at_least : 2 ≤ length points
  pub at_most : length points ≤ 32
  pub linked : AreLinked points
  pub positive_in_range : IsOffset positive
  pub negative_in_range : IsOffset negative

-- exactly two points
pub record IsPointAlongReference (points : List Point) (orientation side : ℕ)
    (positive : Option ℕ) : Type 0 where
  pub two : length points ≡ 2
  pub linked : AreLinked points
  pub orientation_in_range : orientation < 4
  pub side_in_range : side < 4
  pub positive_in_range : IsOffset positive

-- a reference with its ranges; those of the points' fields are kept by their types
abbrev pub IsReference : Reference → Type 0
IsReference (Line points positive negative) = IsLineReference points.items positive negative
IsReference (PointAlong points orientation side positive) =
    IsPointAlongReference points.items orientation side positive

-- it holds in one way at most
pub IsReference-prop : (reference : Reference) → IsProp (IsReference reference)
IsReference-prop (Line points positive negative) = Prim.hlevel props
IsReference-prop (PointAlong points orientation side positive) = Prim.hlevel props

-- the points of a reference, in order
abbrev pub points_of : Reference → List Point
points_of (Line points positive negative) = points.items
points_of (PointAlong points orientation side positive) = points.items
