use Rattle.olr_report.proofs.Common.{end_row, entries_rows, entry_of, entry_rows, KeyValue, Mark, RoadMap, ◌≡◌, ℕ, ◌+◌, List, [], ◌∷◌, ◌++◌, map, Bor, Option, option_map, refl, ap}
use Rattle.olr_text.specs.Texts.{texts_from, unnumbered}
use Rattle.olr_report.specs.declared.page_entries.Entry.{Entry}
use Rattle.olr_report.proofs.text.text_page.Goals as goal

-- the rows of entries are those of their values
rows_are : (road : RoadMap) (number : ℕ) (list : List Entry)
    → texts_from (unnumbered (λ entry. entry_rows road (entry_of entry))) number list
    ≡ entries_rows road (map entry_of list)
rows_are road number [] = refl
rows_are road number (entry ∷ list) =
    ap (λ rest. entry_rows road (entry_of entry) ++ rest) (rows_are road (number + 1) list)

-- the mark in the cursor at the end, if there is one
abbrev mark_of : Option (Bor Mark) → Option Mark
mark_of mark = option_map (λ mark. mark.now) mark

page_is : (road : RoadMap) (list shown : List Entry) (empty rows text : List ℕ)
    (found last : Option KeyValue) (mark : Option Mark) → shown ≡ list → empty ≡ []
    → rows ≡ empty ++ texts_from (unnumbered (λ entry. entry_rows road (entry_of entry))) 1 shown
    → found ≡ last → text ≡ rows ++ end_row found mark
    → text ≡ entries_rows road (map entry_of list) ++ end_row last mark
page_is road list shown empty rows text found last mark shown_is none so_far found_is text_is =
    rw (text_is, so_far, none, shown_is, found_is, rows_are road 1 list) refl

pub returns : goal.returns
returns c = record {
  entries = map entry_of c.in_ok-list.list.items;
  are_entries = c.in_ok-list.ensures;
  text_is = page_is c.args.map.now c.in_ok-list.list.items c.deref.result.now _ _ _ _ _
      (mark_of c.args.mark)
      c.deref.ensures.value c.new-text.ensures.bytes c.in_ok-push_texts.ensures
      c.next_after.ensures c.in_ok-push_end.ensures;
}
