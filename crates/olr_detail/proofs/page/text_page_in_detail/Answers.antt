use Rattle.std.proofs.Common.{◌≡◌, ◌++◌, ℕ, List, [], map, option_map, Option, refl}
use Rattle.std.specs.Borrow.{Bor}
use Rattle.olr_keys.specs.Key.{KeyValue}
use Rattle.olr_keys.specs.declared.mark.Mark.{Mark}
use Rattle.olr_report.specs.TextRows.{end_row}
use Rattle.olr_road.specs.RoadMap.{RoadMap}
use Rattle.olr_text.specs.Texts.{texts_from, texts_of, unnumbered}
use Rattle.olr_detail.specs.Page.{detailed_of}
use Rattle.olr_detail.specs.Text.{detailed_rows}
use Rattle.olr_detail.specs.declared.page.DetailedEntry.{DetailedEntry}
use Rattle.olr_detail.proofs.Pages.{rows_are}
use Rattle.olr_detail.proofs.page.text_page_in_detail.Goals as goal

-- the mark in the cursor at the end, if there is one
abbrev mark_of : Option (Bor Mark) → Option Mark
mark_of mark = option_map (λ mark. mark.now) mark

page_is : (road : RoadMap) (list shown : List DetailedEntry) (empty rows text : List ℕ)
    (found last : Option KeyValue) (mark : Option Mark) → shown ≡ list → empty ≡ []
    → rows ≡ empty
    ++ texts_from (unnumbered (λ one. detailed_rows road (detailed_of one))) 1 shown
    → found ≡ last → text ≡ rows ++ end_row found mark
    → text ≡ texts_of (detailed_rows road) (map detailed_of list) ++ end_row last mark
page_is road list shown empty rows text found last mark shown_is none so_far found_is text_is =
    rw (text_is, so_far, none, shown_is, found_is, rows_are road 1 list) refl

pub returns : goal.returns
returns c = record {
  all = map detailed_of c.in_ok-all.all.items;
  are = c.in_ok-all.ensures;
  text_is = page_is c.args.on.now.map.now c.in_ok-all.all.items c.deref.result.now _ _ _ _ _
      (mark_of c.args.mark)
      c.deref.ensures.value c.new-text.ensures.bytes c.in_ok-push_texts.ensures
      c.next_after.ensures c.in_ok-push_end.ensures;
}
