-- What JSON is made of: whole numbers, arrays, how deep a value nests, and its line. (The compact
-- text of a value, and the value that a text of JSON (RFC 8259) reads as, are those that
-- `serde_json` states.)
use Rattle.std.specs.Prelude.{◌≡◌, ◌<◌, ◌-◌, ℕ, ℤ, List, ◌++◌, map, Option, None, Some, codes, ⊤}
use Rattle.olr_base.specs.Coordinates.{Coordinates}
use Rattle.serde_json.specs.Data.{Data, null, boolean, number, unsigned, string, array, object, Items, no_items, item, Members, no_members, member}
use Rattle.serde_json.specs.Find.{of_integer}
use Rattle.serde_json.specs.Read.{read}
use Rattle.serde_json.specs.View.{items_of}
use Rattle.serde_json.specs.Written.{compact_text}

-- a whole number
abbrev pub whole : ℕ → Data
whole count = number (unsigned count)

-- the value of what may be there, null where it isn't
abbrev pub or_null : {A : Type 0} → (A → Data) → Option A → Data
or_null value None = null
or_null value (Some a) = value a

-- a whole number, null where there is none
abbrev pub whole_or_null : Option ℕ → Data
whole_or_null count = or_null whole count

-- a whole number that may be less than 0
abbrev pub integer : ℤ → Data
integer value = number (of_integer value)

-- an array with a value for each of these
abbrev pub array_of : {A : Type 0} → (A → Data) → List A → Data
array_of value all = array (items_of (map value all))

-- coordinates in microdegrees, as `[lon, lat]`
abbrev pub coordinates_array : Coordinates → Data
coordinates_array at = array (item (integer at.lon) (item (integer at.lat) no_items))

-- a member in front of others, where there is a value
abbrev pub maybe_member : List ℕ → Option Data → Members → Members
maybe_member name None others = others
maybe_member name (Some value) others = member name value others

-- how many members this is
abbrev pub count_if : {A : Type 0} → Option A → ℕ
count_if None = 0
count_if (Some value) = 1

-- arrays and objects nest so deep at most
abbrev mutual
  pub NestsWithin : ℕ → Data → Type 0
  NestsWithin most null = ⊤
  NestsWithin most (boolean b) = ⊤
  NestsWithin most (number n) = ⊤
  NestsWithin most (string text) = ⊤
  NestsWithin most (array values) = (0 < most) × ItemsNestWithin (most - 1) values
  NestsWithin most (object members) = (0 < most) × MembersNestWithin (most - 1) members

  pub ItemsNestWithin : ℕ → Items → Type 0
  ItemsNestWithin most no_items = ⊤
  ItemsNestWithin most (item value values) = NestsWithin most value × ItemsNestWithin most values

  pub MembersNestWithin : ℕ → Members → Type 0
  MembersNestWithin most no_members = ⊤
  MembersNestWithin most (member name value members) =
      NestsWithin most value × MembersNestWithin most members

-- The text of a value: its compact text, which reads as this value.
pub record IsJsonText (value : Data) (text : List ℕ) : Type 0 where
  pub text_is : text ≡ compact_text value
  pub reads_as : read (compact_text value) ≡ Some value

-- The line of a value: its text, and a line feed.
pub record IsJsonLine (value : Data) (line : List ℕ) : Type 0 where
  pub line_is : line ≡ compact_text value ++ codes "\n"
  pub reads_as : read (compact_text value) ≡ Some value
