-- What an output shows, as text or as JSON: a page shows its entries, and an output shows one thing.
use Rattle.olr_app_laws.proofs.Common.{items_of, cursor_text, KeyValue, LayersValue, Mark, RoadMap, entries_rows, IsPageAsAsked, IsPageIn, IsPageTextWith, Extras, Reference, Joinable, as_json, as_text, format_of, shown_for, All-append, Bool, true, false, sym, ap, ◌+◌, ◌∙◌, ◌≡◌, ℕ, List, [], ◌∷◌, ◌++◌, Option, None, Some, refl, append_assoc, arith, option_map, append_cancel_left, append_cancel_right, map-append, same_Some, Data, Items, array, Entry, entry_object, next_value, end_row, AreRows, IsLastRow, IsObject, ArePartsOf, Part, Shows, detailed_parts_of, last_row_of, next_of, parts_of}
use Rattle.olr_report.specs.JsonLaws.{JsonReadsAsPage}
use Rattle.olr_app_laws.proofs.HeadlineTexts.{one_last_row}
use Rattle.olr_app_laws.proofs.HeadlineTexts.{IsInRangeIfAny, detailed_are_rows, end_is_row, entries_are_rows}
use Rattle.olr_detail.specs.Json.{detailed_object, page_object}
use Rattle.olr_detail.specs.MatchingDetail.{AreInDetail, Detailed, IsDetailed}
use Rattle.olr_detail.specs.Text.{detailed_rows}
use Rattle.olr_text.specs.Texts.{texts_from, texts_of, unnumbered}

-- ---- the end of a page

-- the cursor at the end of a page after whose last key, if there is one, more follow
abbrev pub next_cursor : Option KeyValue → Mark → Option (List ℕ)
next_cursor next mark = option_map (λ (key : KeyValue). cursor_text key (Some mark)) next

pub none_next : (next : Option KeyValue) (mark : Mark) → next_cursor next mark ≡ None → next ≡ None
none_next None mark same = refl
none_next (Some key) mark same = absurd cc

pub key_next : (next : Option KeyValue) (mark : Mark) (cursor : List ℕ)
    → next_cursor next mark ≡ Some cursor
    → (key : KeyValue) × (next ≡ Some key) × (cursor ≡ cursor_text key (Some mark))
key_next None mark cursor same = absurd cc
key_next (Some key) mark cursor same = grind (arith, same_Some)

-- ---- a page shows its entries

text_shows : (rows output : List ℕ) (next : Option KeyValue) (mark : Mark) → AreRows rows
    → IsInRangeIfAny next → output ≡ rows ++ end_row next (Some mark)
    → IsLastRow rows (last_row_of (next_cursor next mark)) output
text_shows rows output None mark are in_range whole =
    record { whole = whole; are_rows = are; is_row = end_is_row None mark in_range }
text_shows rows output (Some key) mark are in_range whole =
    record { whole = whole; are_rows = are; is_row = end_is_row _ _ in_range }

json_next : (next : Option KeyValue) (mark : Mark)
    → next_value next (Some mark) ≡ next_of (next_cursor next mark)
json_next None mark = refl
json_next (Some key) mark = refl

-- a page shows its entries, and where it goes on
plain_shows : JsonReadsAsPage → (extras : Extras) (reference : Reference) (format : Joinable)
    (road : RoadMap) (entries : List Entry) (next : Option KeyValue) (mark : Mark)
    (output : List ℕ) → IsInRangeIfAny next
    → IsPageIn extras road reference (format_of format) entries next (Some mark) output
    → Shows format (parts_of extras road reference format entries) (next_cursor next mark) output
plain_shows reads extras reference as_text road entries next mark output in_range is =
    text_shows (entries_rows road entries) output next mark (entries_are_rows road entries) in_range
    is
plain_shows reads extras reference as_json road entries next mark output in_range is =
    let page = reads (shown_for extras road reference) entries next (Some mark) output is in
    record {
      json = page.json;
      output_is = page.text_is;
      value = page.value;
      reads_as = page.reads_as;
      matchings = page.matchings;
      next_is = page.next_is ∙ ap Some (json_next next mark);
    }

-- so does a page in detail, with what speaks for each
detailed_shows : (extras : Extras) (reference : Reference) (format : Joinable) (road : RoadMap)
    (all : List Detailed) (next : Option KeyValue) (mark : Mark) (output : List ℕ)
    → IsInRangeIfAny next
    → IsPageTextWith extras road reference (format_of format) all next (Some mark) output
    → Shows format (detailed_parts_of extras road reference format all) (next_cursor next mark)
    output
detailed_shows extras reference as_text road all next mark output in_range is =
    text_shows (texts_of (detailed_rows road) all) output next mark (detailed_are_rows road all)
    in_range is
detailed_shows extras reference as_json road all next mark output in_range is =
    record {
      json = _;
      output_is = is.line_is;
      value = page_object (shown_for extras road reference) all next (Some mark);
      reads_as = is.reads_as;
      matchings = refl;
      next_is = ap Some (json_next next mark);
    }

-- an output shows these entries, in detail or not, and where it goes on
pub record ShowsPage (detail : Bool) (extras : Extras) (format : Joinable) (road : RoadMap)
    (layers : LayersValue) (entries : List Entry) (next : Option (List ℕ)) (output : List ℕ)
    : Type 0 where
  pub parts : List (Part format)
  pub are : ArePartsOf detail extras format road layers entries parts
  pub shows : Shows format parts next output

pub page_shows : JsonReadsAsPage → (detail : Bool) (extras : Extras) (format : Joinable)
    (road : RoadMap) (layers : LayersValue) (entries : List Entry) (next : Option KeyValue) (mark : Mark)
    (output : List ℕ) → IsInRangeIfAny next
    → IsPageAsAsked detail extras (format_of format) road layers entries next (Some mark) output
    → ShowsPage detail extras format road layers entries (next_cursor next mark) output
page_shows reads false extras format road layers entries next mark output in_range is = record {
  parts = parts_of extras road layers.reference format entries;
  are = refl;
  shows = plain_shows reads extras layers.reference format road entries next mark output in_range is;
}
page_shows reads true extras format road layers entries next mark output in_range is = record {
  parts = detailed_parts_of extras road layers.reference format is.all;
  are = record { all = is.all; are = is.are; parts_are = refl };
  shows = detailed_shows extras layers.reference format road is.all next mark output in_range is.text_is;
}

-- ---- an output shows one thing

one_row : (a b : Option (List ℕ)) → last_row_of a ≡ last_row_of b → a ≡ b
one_row None None same = refl
one_row None (Some b) same = grind arith
one_row (Some a) None same = grind arith
one_row (Some a) (Some b) same = grind (arith, append_cancel_right, append_cancel_left)

one_next : (a b : Option (List ℕ)) → next_of a ≡ next_of b → a ≡ b
one_next None None same = refl
one_next None (Some b) same = absurd cc
one_next (Some a) None same = absurd cc
one_next (Some a) (Some b) same = cc

one_array : (a b : List Data) → items_of a ≡ items_of b → a ≡ b
one_array [] [] same = refl
one_array [] (other ∷ b) same = absurd cc
one_array (one ∷ a) [] same = absurd cc
one_array (one ∷ a) (other ∷ b) same =
    let rest : a ≡ b = one_array a b cc in cc

one_items : (a b : Items) → array a ≡ array b → a ≡ b
one_items a b same = cc

one_object : (a b : List Data) (next next' : Option (List ℕ)) (output : List ℕ)
    → IsObject a next output → IsObject b next' output → (a ≡ b) × (next ≡ next')
one_object a b next next' output is is' =
    grind (arith, append_cancel_right, same_Some, one_array, one_items, one_next)

pub one_shown : (format : Joinable) (a b : List (Part format)) (next next' : Option (List ℕ))
    (output : List ℕ) → Shows format a next output → Shows format b next' output
    → (a ≡ b) × (next ≡ next')
one_shown as_text a b next next' output is is' =
    let rows = one_last_row a _ b _ _ is is' in
    (rows.0, one_row _ _ rows.1)
one_shown as_json a b next next' output is is' = one_object a b _ _ _ is is'

-- ---- entries in two parts

rows_append : (road : RoadMap) (a b : List Entry)
    → entries_rows road (a ++ b) ≡ entries_rows road a ++ entries_rows road b
rows_append road [] b = refl
rows_append road (entry ∷ a) b = grind (arith, append_assoc, rows_append road a b)

plain_append : (extras : Extras) (reference : Reference) (format : Joinable) (road : RoadMap)
    (a b : List Entry) → parts_of extras road reference format (a ++ b)
    ≡ parts_of extras road reference format a ++ parts_of extras road reference format b
plain_append extras reference as_text road a b = rows_append road a b
plain_append extras reference as_json road a b =
    map-append (entry_object (shown_for extras road reference)) a b

-- rows that don't show their number are the same from each number on
from_any : (road : RoadMap) (number other : ℕ) (all : List Detailed)
    → texts_from (unnumbered (detailed_rows road)) number all
    ≡ texts_from (unnumbered (detailed_rows road)) other all
from_any road number other [] = refl
from_any road number other (one ∷ all) = ap (λ rest. detailed_rows road one ++ rest)
    (from_any road (number + 1) (other + 1) all)

detailed_rows_append : (road : RoadMap) (number : ℕ) (a b : List Detailed)
    → texts_from (unnumbered (detailed_rows road)) number (a ++ b)
    ≡ texts_from (unnumbered (detailed_rows road)) number a ++ texts_of (detailed_rows road) b
detailed_rows_append road number [] b = from_any road number 1 b
detailed_rows_append road number (one ∷ a) b =
    let rows : List ℕ = detailed_rows road one in
    let rest : List ℕ = texts_from (unnumbered (detailed_rows road)) (number + 1) a in
    ap (λ l. rows ++ l) (detailed_rows_append road (number + 1) a b)
    ∙ sym (append_assoc rows rest (texts_of (detailed_rows road) b))

detailed_append : (extras : Extras) (reference : Reference) (format : Joinable) (road : RoadMap)
    (a b : List Detailed) → detailed_parts_of extras road reference format (a ++ b)
    ≡ detailed_parts_of extras road reference format a
    ++ detailed_parts_of extras road reference format b
detailed_append extras reference as_text road a b = detailed_rows_append road 1 a b
detailed_append extras reference as_json road a b =
    map-append (detailed_object (shown_for extras road reference)) a b

-- what is in detail in two parts is so as one
in_detail_append : (road : RoadMap) (layers : LayersValue) (a b : List Entry)
    (all others : List Detailed) → AreInDetail layers.tolerances layers.reference road a all
    → AreInDetail layers.tolerances layers.reference road b others
    → AreInDetail layers.tolerances layers.reference road (a ++ b) (all ++ others)
in_detail_append road layers a b all others are their = record {
  entries_are = rw (
    map-append (λ (one : Detailed). one.entry) all others,
    are.entries_are,
    their.entries_are,
  ) refl;
  each = All-append (IsDetailed layers.tolerances layers.reference road) all others are.each
      their.each;
}

pub parts_append : (detail : Bool) (extras : Extras) (format : Joinable) (road : RoadMap)
    (layers : LayersValue) (a b : List Entry) (parts others : List (Part format))
    → ArePartsOf detail extras format road layers a parts
    → ArePartsOf detail extras format road layers b others
    → ArePartsOf detail extras format road layers (a ++ b) (parts ++ others)
parts_append false extras format road layers a b parts others are their =
    rw (are, their) (sym (plain_append extras layers.reference format road a b))
parts_append true extras format road layers a b parts others are their = record {
  all = are.all ++ their.all;
  are = in_detail_append road layers a b are.all their.all are.are their.are;
  parts_are = rw (are.parts_are, their.parts_are)
      (sym (detailed_append extras layers.reference format road are.all their.all));
}
