-- A page of matchings with what speaks for each of them, as text and as JSON.
use Rattle.std.specs.Prelude.{◌≡◌, ℕ, Bool, List, Option, All}
use Rattle.olr_binary.specs.declared.reference.Reference.{Reference}
use Rattle.olr_keys.specs.Page.{PageValue}
use Rattle.olr_keys.specs.declared.mark.Mark.{Mark}
use Rattle.olr_road.specs.RoadMap.{RoadMap}
use Rattle.olr_candidates.specs.declared.tolerances.Tolerances.{Tolerances}
use Rattle.olr_matching.specs.declared.matched.Matched.{Matched}
use Rattle.olr_keys.specs.Key.{KeyValue}
use Rattle.olr_report.specs.Entries.{AreEntriesOf, CanBeShown, IsEntryOf, entry_of}
use Rattle.olr_report.specs.ShownMap.{MapShown, shown_as}
use Rattle.olr_report.specs.Text.{next_after}
use Rattle.olr_text.specs.JsonValues.{IsJsonLine}
use Rattle.olr_detail.specs.Json.{page_object}
use Rattle.olr_detail.specs.MatchingDetail.{CanBeDetailed, Detailed, IsDetailed, entries_of}
use Rattle.olr_detail.specs.Text.{page_text}
use Rattle.olr_detail.specs.declared.page.DetailedEntry.{DetailedEntry}

-- the matching that a call returned, with what speaks for it
abbrev pub detailed_of : DetailedEntry → Detailed
detailed_of one = record { entry = entry_of one.entry; detail = one.detail }

module _ (tolerances : Tolerances) (reference : Reference) (road : RoadMap) where
  -- the matching that has this key and these parts, and what speaks for it
  pub record IsDetailedEntry (key : KeyValue) (matched : Matched) (one : Detailed) : Type 0 where
    pub key_is : one.entry.key ≡ key
    pub matched_is : one.entry.matched ≡ matched
    pub is_entry : IsEntryOf reference one.entry
    pub is_detailed : IsDetailed tolerances reference road one

  -- the matchings of a page, whose keys have these parts, and what speaks for each
  pub record AreDetailed (page : PageValue) (matched : List Matched) (all : List Detailed)
      : Type 0 where
    pub entries : AreEntriesOf reference page.keys matched (entries_of all)
    pub each : All (IsDetailed tolerances reference road) all

  -- the text of a page whose keys have these parts
  pub record IsPageText (page : PageValue) (matched : List Matched) (mark : Option Mark)
      (text : List ℕ) : Type 0 where
    pub all : List Detailed
    pub are : AreDetailed page matched all
    pub text_is : text ≡ page_text road all (next_after page) mark

  -- and its JSON, with shapes or without
  pub record IsPageJson (shapes : Bool) (page : PageValue) (matched : List Matched)
      (mark : Option Mark) (text : List ℕ) : Type 0 where
    pub all : List Detailed
    pub are : AreDetailed page matched all
    pub json : IsJsonLine (page_object (shown_as shapes road reference) all (next_after page) mark)
        text

  -- the parts of a matching that can be shown, with what speaks for it
  pub record CanBeShownInDetail (matched : Matched) : Type 0 where
    pub shown : CanBeShown road reference matched
    pub detailed : CanBeDetailed tolerances reference road matched

-- Two texts are the JSON of one page in detail, with a mark of its own each, or none: they have the
-- same matchings with the same details, and they go on behind the same one.
pub record IsSamePageInDetail (on : MapShown) (mark other : Option Mark) (text again : List ℕ)
    : Type 0 where
  pub all : List Detailed
  pub next : Option KeyValue
  pub text_is : IsJsonLine (page_object on all next mark) text
  pub again_is : IsJsonLine (page_object on all next other) again
