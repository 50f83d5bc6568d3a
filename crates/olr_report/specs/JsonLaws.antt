-- Two texts that are the JSON of one page; and what a reader finds in such a text, a law that is
-- the contract of a public function which does nothing at run time.
use Rattle.std.specs.Prelude.{◌≡◌, ℕ, List, ◌++◌, Option, Some, codes}
use Rattle.serde_json.specs.Data.{Data}
use Rattle.serde_json.specs.Find.{get}
use Rattle.serde_json.specs.Read.{read}
use Rattle.olr_text.specs.JsonValues.{array_of, IsJsonLine}
use Rattle.olr_report.specs.Common.{KeyValue, Mark}
use Rattle.olr_report.specs.Entries.{Entry}
use Rattle.olr_report.specs.Json.{entry_object, next_value, page_object}
use Rattle.olr_report.specs.ShownMap.{MapShown}

-- Two texts are the JSON of one page, with a mark of its own each, or none: they have the same
-- matchings, and go on after the same one.
pub record IsSamePage (on : MapShown) (mark other : Option Mark) (text again : List ℕ) : Type 0
  where
    pub entries : List Entry
    pub next : Option KeyValue
    pub text_is : IsJsonLine (page_object on entries next mark) text
    pub again_is : IsJsonLine (page_object on entries next other) again

-- What a reader of JSON finds in a text: without its line feed it is a JSON text, and under their
-- names its value has the matchings of the page and where the next page begins.
pub record ReadsAsPage (on : MapShown) (entries : List Entry) (next : Option KeyValue)
    (mark : Option Mark) (text : List ℕ) : Type 0 where
  pub json : List ℕ
  pub text_is : text ≡ json ++ codes "\n"
  pub value : Data
  pub reads_as : read json ≡ Some value
  pub matchings : get (codes "matchings") value ≡ Some (array_of (entry_object on) entries)
  pub next_is : get (codes "next") value ≡ Some (next_value next mark)

-- the JSON of a page reads as this page
abbrev pub JsonReadsAsPage : Type 0
JsonReadsAsPage = (on : MapShown) (entries : List Entry) (next : Option KeyValue)
    (mark : Option Mark) (text : List ℕ) → IsJsonLine (page_object on entries next mark) text
    → ReadsAsPage on entries next mark text
