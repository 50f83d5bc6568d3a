-- The refusals of a text, as a table of conditions. The first one that holds is answered.
use Rattle.std.specs.Prelude.{◌≡◌, ◌≢◌, ℕ, ◌+◌, ◌<◌, ◌≤◌, ◌==◌, if◌then◌else◌, ◌⊎◌, List, [], length, MatchBool}
use Rattle.olr_base.specs.Coordinates.{Coordinates, IsInRange}
use Rattle.olr_binary.specs.declared.refusal.Refused.{Refused}
use Rattle.olr_binary.specs.declared.refusal.Refused.TheVariants.{TooLong, NotBase64, Empty, BadVersion, OtherKind, PoiWithAccess, BadLength, TooManyPoints, OffsetFlags, OutOfRange}
use Rattle.olr_binary.specs.declared.refusal.Kind.TheVariants.{Area, GeoCoordinate}
use Rattle.olr_binary.specs.Text.{IsBase64}
use Rattle.olr_binary.specs.Bits.{version_of, area_flags_of, point_flag_of, attribute_flag_of, line_offsets, point_along_offsets}
use Rattle.olr_binary.specs.Layout.{IsLayout, status_of, last_attribute_of}
use Rattle.olr_binary.specs.Coordinates.{place_of, IsFirstPlace}

-- the number of a refusal in the order of the checks
abbrev pub order_of : Refused → ℕ
order_of TooLong = 1
order_of NotBase64 = 2
order_of Empty = 3
order_of (BadVersion version) = 4
order_of (OtherKind kind) = 5
order_of PoiWithAccess = 6
order_of (BadLength size) = 7
order_of (TooManyPoints count) = 8
order_of OffsetFlags = 9
order_of (OutOfRange point) = 10

-- a number of bytes that a line can have, and one that a point along a line can have
abbrev pub IsLineSize : ℕ → Type 0
IsLineSize size = (count offsets : ℕ) × IsLayout size count offsets

abbrev pub IsPointAlongSize : ℕ → Type 0
IsPointAlongSize size = (size ≡ 16) ⊎ (size ≡ 17)

abbrev pub IsSize : ℕ → ℕ → Type 0
IsSize status size = MatchBool (point_flag_of status == 0) (IsLineSize size) (IsPointAlongSize size)

-- the number of offset bytes by the flags of the last point
abbrev pub flags_set : ℕ → ℕ → ℕ
flags_set status attribute = if point_flag_of status == 0 then line_offsets attribute else
    point_along_offsets attribute

-- point i is the first outside the ranges of coordinates
pub record IsFirstOutOfRange (bytes : List ℕ) (i : ℕ) : Type 0 where
  pub first : Coordinates
  pub place : IsFirstPlace bytes first
  pub beyond : IsInRange (place_of bytes first i) → ⊥
  pub before : (j : ℕ) → j < i → IsInRange (place_of bytes first j)

-- The conditions on the bytes of a text, in their order. Each counts only where none before it
-- holds. Refusals count points from 1.
abbrev pub BytesCondition : List ℕ → Refused → Type 0
BytesCondition bytes Empty = bytes ≡ []
BytesCondition bytes (BadVersion version) = (version ≡ version_of (status_of bytes)) × (version ≢ 3)
BytesCondition bytes (OtherKind Area) = (0 < area_flags_of (status_of bytes))
    ⊎ ((point_flag_of (status_of bytes) ≡ 0) × (attribute_flag_of (status_of bytes) ≡ 0))
BytesCondition bytes (OtherKind GeoCoordinate) = (area_flags_of (status_of bytes) ≡ 0)
    × (point_flag_of (status_of bytes) ≡ 1) × (attribute_flag_of (status_of bytes) ≡ 0)
BytesCondition bytes PoiWithAccess = (point_flag_of (status_of bytes) ≡ 1)
    × (attribute_flag_of (status_of bytes) ≡ 1)
    × ((length bytes ≡ 20) ⊎ (length bytes ≡ 21))
BytesCondition bytes (BadLength size) = (size ≡ length bytes) × (IsSize (status_of bytes) size → ⊥)
BytesCondition bytes (TooManyPoints count) = (point_flag_of (status_of bytes) ≡ 0)
    × (offsets : ℕ) × IsLayout (length bytes) count offsets × (32 < count)
BytesCondition bytes OffsetFlags = (count offsets : ℕ) × IsLayout (length bytes) count offsets
    × (offsets ≢ flags_set (status_of bytes) (last_attribute_of bytes count))
BytesCondition bytes (OutOfRange point) = (i : ℕ) × (point ≡ i + 1) × (count offsets : ℕ)
    × IsLayout (length bytes) count offsets × (i < count) × IsFirstOutOfRange bytes i
BytesCondition bytes _ = ⊥

-- the first refusal of the bytes whose condition holds
pub record RefusesBytes (bytes : List ℕ) (refused : Refused) : Type 0 where
  pub holds : BytesCondition bytes refused
  pub first : (earlier : Refused) → order_of earlier < order_of refused
      → BytesCondition bytes earlier → ⊥

-- The refusal of a trimmed text: it is too long, or else not base64, or else its bytes are refused.
abbrev pub Refuses : List ℕ → Refused → Type 0
Refuses text TooLong = 344 < length text
Refuses text NotBase64 = (length text ≤ 344) × ((bytes : List ℕ) → IsBase64 text bytes → ⊥)
Refuses text refused = (length text ≤ 344)
    × (bytes : List ℕ) × IsBase64 text bytes × RefusesBytes bytes refused
