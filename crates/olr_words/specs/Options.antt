-- The options that the words of a record may have, and what each takes.
use Rattle.std.specs.Prelude.{ℕ, ◌^◌, ◌<◌, ⊤, List, [], ◌∷◌, ◌++◌, Option, codes, find}
use Rattle.std.specs.Prelude.{option_map}
use Rattle.std.specs.List.{Contains}
use Rattle.std.specs.Str.{bytes_eq}
use Rattle.std.specs.Str.Parse.{IsNumeral, digits_value, without_leading_plus}
use Rattle.olr_words.specs.BoxText.{IsBoxText}

-- ---- options

-- what an option takes: a whole number; one of some words; the text of a cursor; that of a box, which
-- has to be there; or nothing, as a flag
pub data OptionValue : Type 0 where
  number : OptionValue
  one_of : List (List ℕ) → OptionValue
  cursor : OptionValue
  geo_box : OptionValue
  flag : OptionValue

-- an option: its name, without dashes, and what it takes
pub record RecordOption : Type 0 where
  pub name : List ℕ
  pub value : OptionValue

-- a whole number of 32 bits, in decimal digits, with a plus before it or without one
abbrev pub IsWholeNumber : List ℕ → Type 0
IsWholeNumber text = IsNumeral 10 (without_leading_plus text)
    × (digits_value 10 (without_leading_plus text) < 2 ^ 32)

-- a text is such a value; a cursor is read later, with faults of its own, and a flag has no value to
-- test: whatever is found for it is right
abbrev pub IsValue : OptionValue → List ℕ → Type 0
IsValue number text = IsWholeNumber text
IsValue (one_of words) text = Contains words text
IsValue cursor text = ⊤
IsValue geo_box text = IsBoxText text
IsValue flag text = ⊤

-- ---- subcommands

abbrev pub option_named : List ℕ → OptionValue → RecordOption
option_named name value = record { name = name; value = value }

abbrev pub number_named : List ℕ → RecordOption
number_named name = option_named name number

abbrev pub flag_named : List ℕ → RecordOption
flag_named name = option_named name flag

-- the format of an answer: it isn't text, since an answer to a record is an object of JSON
abbrev pub json_option : RecordOption
json_option = option_named (codes "format") (one_of (codes "json" ∷ []))

abbrev pub json_or_geojson_option : RecordOption
json_or_geojson_option =
    option_named (codes "format") (one_of (codes "json" ∷ codes "geojson" ∷ []))

-- what is shown of each candidate
abbrev pub candidate_options : List RecordOption
candidate_options =
    flag_named (codes "detail") ∷ flag_named (codes "shape") ∷ json_or_geojson_option ∷ []

-- what is shown of each matching or place
abbrev pub matching_options : List RecordOption
matching_options = flag_named (codes "detail") ∷ flag_named (codes "shape") ∷ json_or_geojson_option
    ∷ option_named (codes "part") (one_of (codes "route" ∷ codes "outer" ∷ codes "inner" ∷ [])) ∷ []

-- how a reference is matched
abbrev pub tolerance_options : List RecordOption
tolerance_options = option_named (codes "profile") (one_of (codes "program" ∷ codes "feed" ∷ []))
    ∷ number_named (codes "radius") ∷ number_named (codes "bearing")
    ∷ number_named (codes "class") ∷ number_named (codes "lowest")
    ∷ number_named (codes "percent") ∷ number_named (codes "slack") ∷ []

-- how places are told apart, how far matchings are looked at, and in which order places are printed
abbrev pub place_options : List RecordOption
place_options = number_named (codes "apart") ∷ number_named (codes "within")
    ∷ number_named (codes "look") ∷ number_named (codes "most")
    ∷ option_named (codes "order") (one_of (codes "total" ∷ codes "likely" ∷ [])) ∷ []

-- which matching has its legs printed, and how near another path is
abbrev pub leg_options : List RecordOption
leg_options = option_named (codes "at") cursor ∷ number_named (codes "near")
    ∷ json_or_geojson_option ∷ []

-- which lines of a map are printed, and what of each
abbrev pub line_options : List RecordOption
line_options = option_named (codes "box") geo_box ∷ number_named (codes "most")
    ∷ flag_named (codes "shape") ∷ json_or_geojson_option ∷ []

-- the subcommands that a record may name, each with its options in a record beside the reference
abbrev pub subcommands : List (List ℕ × List RecordOption)
subcommands = (codes "show", json_option ∷ [])
    ∷ (codes "candidates", candidate_options ++ tolerance_options)
    ∷ (
      codes "match",
      number_named (codes "page")
          ∷ option_named (codes "after") cursor ∷ matching_options ++ tolerance_options,
    )
    ∷ (codes "places", place_options ++ matching_options ++ tolerance_options)
    ∷ (
      codes "why",
      number_named (codes "nearest") ∷ flag_named (codes "shape") ∷ json_option ∷ tolerance_options,
    )
    ∷ (codes "legs", leg_options ++ tolerance_options)
    ∷ (codes "lines", line_options)
    ∷ []

-- the options in the first row of a name
abbrev pub options_named : List (List ℕ × List RecordOption) → List ℕ → Option (List RecordOption)
options_named rows name = option_map (λ row. row.1) (find (λ row. bytes_eq row.0 name) rows)

-- the options of the subcommand of a name, if there is one
abbrev pub options_of : List ℕ → Option (List RecordOption)
options_of name = options_named subcommands name
