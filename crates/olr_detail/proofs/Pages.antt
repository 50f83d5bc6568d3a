-- The values and the rows that are written of a page are those of its matchings.
use Rattle.olr_report.proofs.Common.{AreEntriesOf, Entry, IsEntryOf, Matched, Reference, ◌≡◌, ◌+◌, ◌++◌, ◌<◌, ◌≤◌, ◌∙◌, ℕ, List, [], ◌∷◌, None, Option, length, map, take, get_or, option_map, refl, sym, ap, All-push, map_push, take_all, take_more}
use Rattle.std.specs.Borrow.{Bor}
use Rattle.std.specs.Prelude.{codes}
use Rattle.arrayvec.specs.ArrayString.{ArrayString}
use Rattle.serde_json.specs.Data.{member, no_members, object, string}
use Rattle.olr_text.specs.JsonValues.{NestsWithin, array_of, or_null}
use Rattle.olr_text.specs.Texts.{texts_from, unnumbered}
use Rattle.olr_keys.specs.Cursor.{cursor_text}
use Rattle.olr_keys.specs.Key.{KeyValue}
use Rattle.olr_keys.specs.declared.mark.Mark.{Mark}
use Rattle.olr_report.proofs.ShownPage.{same_next}
use Rattle.olr_road.specs.RoadMap.{RoadMap}
use Rattle.olr_detail.specs.Json.{detailed_object, page_object}
use Rattle.olr_detail.specs.MatchingDetail.{Detailed}
use Rattle.olr_detail.specs.Page.{detailed_of}
use Rattle.olr_detail.specs.Text.{detailed_rows}
use Rattle.olr_detail.specs.declared.page.DetailedEntry.{DetailedEntry}
use Rattle.olr_report.proofs.ShapeValues.{mapped}
use Rattle.olr_report.specs.ShownMap.{MapShown}
use Rattle.olr_detail.proofs.Written.{matching_nests}

pub detailed_nests : (on : MapShown) (most : ℕ) → 4 ≤ most → (one : Detailed)
    → NestsWithin most (detailed_object on one)
detailed_nests on most enough one = matching_nests on most enough None one.entry.key
    one.entry.matched one.entry.route one.entry.located one.detail

module _ (on : MapShown) (list : List DetailedEntry) (next : Option ArrayString)
    (found : Option (Bor KeyValue)) (last : Option KeyValue)
    (mark : Option Mark) (same : option_map (λ text. text.bytes) next
    ≡ option_map (λ (key : Bor KeyValue). cursor_text key.now mark) found)
    (is : option_map (λ (key : Bor KeyValue). key.now) found ≡ last) where
  pub same_page : object (
      member (codes "matchings")
      (array_of (λ one. detailed_object on (detailed_of one)) list) (
      member (codes "next") (or_null (λ text. string text.bytes) next) no_members))
      ≡ page_object on (map detailed_of list) last mark
  same_page =
      cc (mapped (detailed_object on) detailed_of list, same_next next found last mark same is)

-- ---- the matchings of the first keys, one more after the other

-- what each matching has, where that of the first ones is the beginning of a list
more_of : {A : Type 0} (part : Entry → A) (all : List A) (entries : List Entry) (entry : Entry)
    (count next : ℕ) → count < length all → next ≡ count + 1
    → part entry ≡ get_or all count (part entry) → map part entries ≡ take count all
    → map part (entries ++ entry ∷ []) ≡ take next all
more_of part all entries entry count next inside is at are =
    let first = part entry in
    map_push part entries entry ∙ ap (λ l. l ++ first ∷ []) are
    ∙ ap (λ a. take count all ++ a ∷ []) at ∙ sym (take_more all count first inside)
    ∙ ap (λ n. take n all) (sym is)

module _ (reference : Reference) (keys : List KeyValue) (matched : List Matched)
    (entries : List Entry) (count : ℕ) where
  pub with_entry : (new : List Entry) (entry : Entry) (next : ℕ) → count < length keys
      → count < length matched → next ≡ count + 1 → entry.key ≡ get_or keys count entry.key
      → entry.matched ≡ get_or matched count entry.matched → IsEntryOf reference entry
      → new ≡ entries ++ entry ∷ []
      → AreEntriesOf reference (take count keys) (take count matched) entries
      → AreEntriesOf reference (take next keys) (take next matched) new
  with_entry new entry next inside within is key_at one_at of grown are = rw grown (record {
    keys_are = more_of (λ (e : Entry). e.key) keys entries entry count next inside is key_at
        are.keys_are;
    matched_are = more_of (λ (e : Entry). e.matched) matched entries entry count next within is
        one_at are.matched_are;
    each = All-push (IsEntryOf reference) entries entry are.each of;
  })

  pub all_entries : length keys ≤ count → length matched ≤ count
      → AreEntriesOf reference (take count keys) (take count matched) entries
      → AreEntriesOf reference keys matched entries
  all_entries inside within are = record {
    keys_are = are.keys_are ∙ take_all count keys inside;
    matched_are = are.matched_are ∙ take_all count matched within;
    each = are.each;
  }

-- ---- rows

-- the rows of matchings, whatever their numbers
pub rows_are : (road : RoadMap) (number : ℕ) (list : List DetailedEntry)
    → texts_from (unnumbered (λ one. detailed_rows road (detailed_of one))) number list
    ≡ texts_from (unnumbered (detailed_rows road)) number (map detailed_of list)
rows_are road number [] = refl
rows_are road number (one ∷ list) =
    ap (λ rest. detailed_rows road (detailed_of one) ++ rest) (rows_are road (number + 1) list)
