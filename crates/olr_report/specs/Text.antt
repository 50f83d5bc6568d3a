-- The text of a page of matchings: the rows of each of them, and a last row that says whether more
-- follow.
use Rattle.std.specs.Prelude.{◌≡◌, ℕ, List, [], ◌∷◌, ◌++◌, Option, None, if◌then◌else◌}
use Rattle.olr_report.specs.Common.{KeyValue, Mark, Matched, Reference, RoadMap}
use Rattle.olr_keys.specs.Page.{PageValue, last_of}
use Rattle.olr_report.specs.Entries.{Entry, AreEntriesOf}
use Rattle.olr_report.specs.TextRows.{entry_rows, end_row}

-- the rows of entries
abbrev pub entries_rows : RoadMap → List Entry → List ℕ
entries_rows road [] = []
entries_rows road (entry ∷ entries) = entry_rows road entry ++ entries_rows road entries

-- the key after which the next page begins: the last one of the page, where more remain
abbrev pub next_after : PageValue → Option KeyValue
next_after page = if page.more then last_of None page.keys else None

-- the text of a page, by its entries and where the next page begins, with this mark or without one
abbrev pub page_text : RoadMap → List Entry → Option KeyValue → Option Mark → List ℕ
page_text road entries next mark = entries_rows road entries ++ end_row next mark

-- the text of a page whose keys have these parts
pub record IsPageText (road : RoadMap) (reference : Reference) (page : PageValue)
    (matched : List Matched) (mark : Option Mark) (text : List ℕ)
    : Type 0 where
  pub entries : List Entry
  pub are_entries : AreEntriesOf reference page.keys matched entries
  pub text_is : text ≡ page_text road entries (next_after page) mark
