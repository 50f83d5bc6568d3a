-- What an output shows of the matchings, as text or as JSON, in detail or not, and where it goes on:
-- a text by its rows, of which the last one says it, and JSON by what a reader finds under the names
-- of its members.
use Rattle.std.specs.Prelude.{◌≡◌, ◌≢◌, ℕ, ◌⊎◌, Bool, true, false, List, [], ◌∷◌, ◌++◌, map, All, Option, None, Some}
use Rattle.std.specs.Prelude.{codes}
use Rattle.serde_json.specs.Data.{Data, array, null, string}
use Rattle.serde_json.specs.Find.{get}
use Rattle.serde_json.specs.Read.{read}
use Rattle.serde_json.specs.View.{items_of}
use Rattle.olr_app.specs.Common.{Extras, LayersValue, Reference, RoadMap}
use Rattle.olr_app.specs.Page.{shown_for}
use Rattle.olr_detail.specs.Json.{detailed_object}
use Rattle.olr_detail.specs.MatchingDetail.{AreInDetail, Detailed}
use Rattle.olr_detail.specs.Text.{detailed_rows}
use Rattle.olr_report.specs.Entries.{Entry}
use Rattle.olr_report.specs.Json.{entry_object}
use Rattle.olr_report.specs.Text.{entries_rows}
use Rattle.olr_request.specs.declared.request.Format.{Format}
use Rattle.olr_request.specs.declared.request.Format.TheVariants.{Json, Text}
use Rattle.olr_text.specs.Texts.{texts_of}

-- ---- rows

-- a row: bytes that are no line feed, and a line feed, whose code is 10
pub record IsRow (row : List ℕ) : Type 0 where
  pub bytes : List ℕ
  pub row_is : row ≡ bytes ++ 10 ∷ []
  pub others : All (λ (byte : ℕ). byte ≢ 10) bytes

-- whole rows: nothing, or bytes whose last one is a line feed
abbrev pub AreRows : List ℕ → Type 0
AreRows rows = (rows ≡ []) ⊎ ((front : List ℕ) × (rows ≡ front ++ 10 ∷ []))

-- an output is these rows, and this last row
pub record IsLastRow (rows row output : List ℕ) : Type 0 where
  pub whole : output ≡ rows ++ row
  pub are_rows : AreRows rows
  pub is_row : IsRow row

-- the last row of an output: there are no more matchings, or more follow, at this cursor
abbrev pub last_row_of : Option (List ℕ) → List ℕ
last_row_of None = codes "end\n"
last_row_of (Some cursor) = codes "more " ++ cursor ++ codes "\n"

-- ---- JSON

-- the value of `next`: there are no more matchings, or more follow, at this cursor
abbrev pub next_of : Option (List ℕ) → Data
next_of None = null
next_of (Some cursor) = string cursor

-- An output is a JSON text and a line feed. It reads as an object that has an array of these values
-- under the name `matchings`, and where it goes on under the name `next`.
pub record IsObject (values : List Data) (next : Option (List ℕ)) (output : List ℕ) : Type 0 where
  pub json : List ℕ
  pub output_is : output ≡ json ++ codes "\n"
  pub value : Data
  pub reads_as : read json ≡ Some value
  pub matchings : get (codes "matchings") value ≡ Some (array (items_of values))
  pub next_is : get (codes "next") value ≡ Some (next_of next)

-- ---- either of them

-- the formats whose outputs are joined by what they show
pub data Joinable : Type 0 where
  as_text : Joinable
  as_json : Joinable

abbrev pub format_of : Joinable → Format
format_of as_text = Text
format_of as_json = Json

-- what matchings are shown by: the bytes of rows, or values of JSON
abbrev pub Part : Joinable → Type 0
Part as_text = ℕ
Part as_json = Data

-- an output shows these parts of matchings, and that more follow at this cursor, or none do
abbrev pub Shows : (format : Joinable) → List (Part format) → Option (List ℕ) → List ℕ → Type 0
Shows as_text rows next output = IsLastRow rows (last_row_of next) output
Shows as_json values next output = IsObject values next output

-- ---- matchings of a reference, in detail or not

module _ (extras : Extras) (road : RoadMap) (reference : Reference) where
  -- the parts that show entries, in order: the rows of each, or an object for each
  abbrev pub parts_of : (format : Joinable) → List Entry → List (Part format)
  parts_of as_text entries = entries_rows road entries
  parts_of as_json entries = map (entry_object (shown_for extras road reference)) entries

  -- the parts that show matchings with what speaks for each, in order: the rows of each, or an
  -- object for each
  abbrev pub detailed_parts_of : (format : Joinable) → List Detailed → List (Part format)
  detailed_parts_of as_text all = texts_of (detailed_rows road) all
  detailed_parts_of as_json all = map (detailed_object (shown_for extras road reference)) all

-- the parts that show these matchings in detail: with what speaks for each of them
pub record ArePartsInDetail (extras : Extras) (format : Joinable) (road : RoadMap)
    (layers : LayersValue) (entries : List Entry) (parts : List (Part format)) : Type 0 where
  pub all : List Detailed
  pub are : AreInDetail layers.tolerances layers.reference road entries all
  pub parts_are : parts ≡ detailed_parts_of extras road layers.reference format all

-- the parts that show these matchings, in detail or not
abbrev pub ArePartsOf : Bool → Extras → (format : Joinable) → RoadMap → LayersValue → List Entry
    → List (Part format) → Type 0
ArePartsOf false extras format road layers entries parts =
    parts ≡ parts_of extras road layers.reference format entries
ArePartsOf true extras format road layers entries parts =
    ArePartsInDetail extras format road layers entries parts
