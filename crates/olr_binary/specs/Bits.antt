-- The fields inside the bytes of a reference (OpenLR white paper 1.5, binary format version 3). Bit
-- 0 is the least significant one. Bits that no definition reads are ignored: bit 7 of the status
-- byte and of attribute 4, the upper two bits of attribute 1 in a line, and the negative flag in a
-- point along a line.
use Rattle.std.specs.Prelude.{ℕ, ◌+◌, ◌/◌, ◌%◌, ◌^◌}

-- `count` bits of a byte, of which bit `low` is the least significant, as a number
abbrev pub bits : ℕ → ℕ → ℕ → ℕ
bits byte low count = byte / 2 ^ low % 2 ^ count

-- ---- the status byte

-- the version of the format
abbrev pub version_of : ℕ → ℕ
version_of status = bits status 0 3

-- the number of area flags, of two, that are set
abbrev pub area_flags_of : ℕ → ℕ
area_flags_of status = bits status 6 1 + bits status 4 1

-- 1 where the location is a point, as a point along a line
abbrev pub point_flag_of : ℕ → ℕ
point_flag_of status = bits status 5 1

-- 1 where the points have attributes, as those of a line
abbrev pub attribute_flag_of : ℕ → ℕ
attribute_flag_of status = bits status 3 1

-- ---- attribute 1 of a point

-- in the first point of a point along a line its orientation, in the second its side of the road
abbrev pub orientation_or_side_of : ℕ → ℕ
orientation_or_side_of attribute = bits attribute 6 2

-- the functional road class
abbrev pub class_of : ℕ → ℕ
class_of attribute = bits attribute 3 3

-- the form of way
abbrev pub form_of : ℕ → ℕ
form_of attribute = bits attribute 0 3

-- ---- attribute 2 of each point but the last, and attribute 4 of the last

-- the lowest functional road class (the greatest class number) on the path to the next point
abbrev pub lowest_of : ℕ → ℕ
lowest_of attribute = bits attribute 5 3

-- the sector of the bearing
abbrev pub sector_of : ℕ → ℕ
sector_of attribute = bits attribute 0 5

-- 1 where a byte with the positive offset follows the points
abbrev pub positive_flag_of : ℕ → ℕ
positive_flag_of attribute = bits attribute 6 1

-- 1 where a byte with the negative offset follows the points, in a line
abbrev pub negative_flag_of : ℕ → ℕ
negative_flag_of attribute = bits attribute 5 1

-- the number of offset bytes of a line, by its flags
abbrev pub line_offsets : ℕ → ℕ
line_offsets attribute = positive_flag_of attribute + negative_flag_of attribute

-- the number of offset bytes of a point along a line, which has no negative offset
abbrev pub point_along_offsets : ℕ → ℕ
point_along_offsets attribute = positive_flag_of attribute
