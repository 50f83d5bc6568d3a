-- The text of a page is whole rows and a last row, which says whether more matchings follow; and a
-- text is cut in one way before its last row.
use Rattle.std.proofs.Common.{false, refl, sym, ap, ◌∙◌, append-nil, arith}
use Rattle.std.proofs.Math.Facts.{eqb_no}
use Rattle.std.proofs.lemmas.Bool.Decides.{nat_tests}
use Rattle.std.proofs.lemmas.Float.{T_from_true}
use Rattle.std.proofs.lemmas.List.Sums.{AllPass-from_list_all}
use Rattle.std.specs.Fmt.{digit_glyph}
use Rattle.olr_app_laws.proofs.Common.{RoadMap, cursor_text, IsInRange, KeyValue, Mark, entries_rows, ◌≡◌, ℕ, ◌+◌, ◌<◌, ◌^◌, List, [], ◌∷◌, ◌++◌, append_assoc, inl, inr, Option, None, Some, append-nil, append_cancel_right, All-append, All-cons, All-head, All-nil, All-tail, All-weaker, list_all, ◌≢◌, All, codes, decimal, eqb, not, true, hexadecimal, key_text, ranks_text, IsRank, Entry, end_row, entry_rows, leg_rows, location_rows, part_row, pieces_row, place_row, point_rows, AreRows, IsLastRow, IsRow}
use Rattle.olr_detail.specs.MatchingDetail.{Detailed}
use Rattle.olr_detail.specs.Text.{detail_rows, detailed_rows, likely_text}
use Rattle.olr_road.specs.declared.place.Place.{Place}
use Rattle.olr_keys.proofs.Lacking.{lacks_decimal, not_cut}
use Rattle.olr_report.specs.Location.{LocatedLine, LocatedPoint, LocatedValue}
use Rattle.olr_text.specs.Texts.{texts_from, texts_of, unnumbered}

-- another byte than a line feed
abbrev pub IsOther : ℕ → Type 0
IsOther byte = byte ≢ 10

-- no byte of a text is a line feed
abbrev pub LacksFeed : List ℕ → Type 0
LacksFeed text = All IsOther text

-- ---- cuts

-- a text is cut in one way at its last line feed
pub last_cut : (front later front' later' : List ℕ) → LacksFeed later → LacksFeed later'
    → front ++ 10 ∷ later ≡ front' ++ 10 ∷ later' → (front ≡ front') × (later ≡ later')
last_cut [] later [] later' lacks lacks' same = (refl, cc)
last_cut [] later (first ∷ front') later' lacks lacks' same =
    absurd (not_cut 10 later front' later' (record { each = lacks }) cc)
last_cut (first ∷ front) later [] later' lacks lacks' same =
    absurd (not_cut 10 later' front later (record { each = lacks' }) cc)
last_cut (first ∷ front) later (first' ∷ front') later' lacks lacks' same =
    let one : first ≡ first' = cc in
    let rest : (front ≡ front') × (later ≡ later') = last_cut _ _ _ _ lacks lacks' cc in
    let fronts : front ≡ front' = rest.0 in (cc, rest.1)

-- ---- the texts of keys

-- where a test finds of each byte that it is another
by_test : (text : List ℕ) → list_all (λ byte. not (eqb byte 10)) text ≡ true → LacksFeed text
by_test text is = grind (arith, All-weaker, eqb_no, T_from_true, AllPass-from_list_all)

-- a dot and a rank, for each rank
abbrev behind_first : List ℕ → List ℕ
behind_first [] = []
behind_first (rank ∷ ranks) = 46 ∷ decimal rank ++ behind_first ranks

ranks_text-cons : (rank : ℕ) (ranks : List ℕ)
    → ranks_text (rank ∷ ranks) ≡ decimal rank ++ behind_first ranks
ranks_text-cons rank [] = sym (append-nil (decimal rank))
ranks_text-cons rank (next ∷ ranks) = grind (arith, ranks_text-cons next ranks)

in_decimal : (n : ℕ) → n < 2 ^ 64 → LacksFeed (decimal n)
in_decimal n small = (lacks_decimal (λ at_least. absurd (omega (arith, at_least))) small).each

in_rank : (rank : ℕ) → IsRank rank → LacksFeed (decimal rank)
in_rank rank is = in_decimal _ (omega arith)

in_behind : (ranks : List ℕ) → All IsRank ranks → LacksFeed (behind_first ranks)
in_behind [] each = All-nil IsOther
in_behind (rank ∷ ranks) each = All-append IsOther (46 ∷ decimal rank) (behind_first ranks)
    (All-append IsOther (46 ∷ []) (decimal rank) (by_test (46 ∷ []) refl)
    (in_rank _ (All-head IsRank rank ranks each)))
    (in_behind ranks (All-tail IsRank rank ranks each))

in_ranks : (ranks : List ℕ) → All IsRank ranks → LacksFeed (ranks_text ranks)
in_ranks [] each = All-nil IsOther
in_ranks (rank ∷ ranks) each = rw (ranks_text-cons _ _)
    (All-append IsOther (decimal rank) (behind_first ranks)
    (in_rank _ (All-head IsRank rank ranks each)) (in_behind _ (All-tail IsRank rank ranks each)))

pub in_key : (key : KeyValue) → IsInRange key → LacksFeed (key_text key)
in_key key in_range = All-append IsOther (decimal key.total ++ codes ":") (ranks_text key.ranks)
    (All-append IsOther (decimal key.total) (codes ":") (in_decimal _ (omega arith))
    (by_test (codes ":") refl)) (in_ranks _ in_range.each)

-- ---- the texts of marks

other_digit : (value : ℕ) → IsOther (digit_glyph false value)
other_digit value same = grind (arith, nat_tests)

pub in_hexadecimal : (bytes : List ℕ) → LacksFeed (hexadecimal bytes)
in_hexadecimal [] = All-nil IsOther
in_hexadecimal (byte ∷ bytes) = grind (arith, All-cons, other_digit, in_hexadecimal bytes)

-- ---- a text has one last row

-- behind a line feed, rows end with one even where there are none
closed : (rows : List ℕ) → AreRows rows → (front : List ℕ) × (10 ∷ rows ≡ front ++ 10 ∷ [])
closed rows are = elim are [
  | inl none ↦ ([], ap (λ l. 10 ∷ l) none)
  | inr some ↦ (10 ∷ some.0, ap (λ l. 10 ∷ l) some.1)
]

one_cut_of_rows : (rows bytes rows' bytes' : List ℕ) → AreRows rows → AreRows rows'
    → LacksFeed bytes → LacksFeed bytes' → rows ++ bytes ≡ rows' ++ bytes'
    → (rows ≡ rows') × (bytes ≡ bytes')
one_cut_of_rows rows bytes rows' bytes' are are' lacks lacks' same =
    let front = closed _ are in
    let front' = closed _ are' in
    let cut = sym (append_assoc front.0 (10 ∷ []) bytes) ∙ sym (ap (λ l. l ++ bytes) front.1)
    ∙ ap (λ l. 10 ∷ l) same ∙ ap (λ l. l ++ bytes') front'.1
    ∙ append_assoc front'.0 (10 ∷ []) bytes' in
    let parts = last_cut _ _ _ _ lacks lacks' cut in
    let whole = front.1 ∙ ap (λ l. l ++ 10 ∷ []) parts.0 ∙ sym front'.1 in (cc, parts.1)

pub one_last_row : (rows row rows' row' output : List ℕ) → IsLastRow rows row output
    → IsLastRow rows' row' output → (rows ≡ rows') × (row ≡ row')
one_last_row rows row rows' row' output is is' =
    let bytes = is.is_row.bytes in
    let bytes' = is'.is_row.bytes in
    let whole = append_assoc rows bytes (10 ∷ []) ∙ sym (ap (λ l. rows ++ l) is.is_row.row_is)
    ∙ sym is.whole ∙ is'.whole ∙ ap (λ l. rows' ++ l) is'.is_row.row_is
    ∙ sym (append_assoc rows' bytes' (10 ∷ [])) in
    let parts = one_cut_of_rows _ _ _ _ is.are_rows is'.are_rows is.is_row.others
    is'.is_row.others (append_cancel_right (rows ++ bytes) (rows' ++ bytes') (10 ∷ []) whole) in (
      parts.0,
      is.is_row.row_is ∙ ap (λ l. l ++ 10 ∷ []) parts.1 ∙ sym is'.is_row.row_is,
    )

-- ---- texts of whole rows

-- the last byte is a line feed
abbrev pub EndsRow : List ℕ → Type 0
EndsRow text = (front : List ℕ) × (text ≡ front ++ 10 ∷ [])

pub ends_after : (front text : List ℕ) → EndsRow text → EndsRow (front ++ text)
ends_after front text ends = (
  front ++ ends.0,
  ap (λ l. front ++ l) ends.1 ∙ sym (append_assoc front ends.0 (10 ∷ [])),
)

pub rows_after : (front text : List ℕ) → AreRows front → AreRows text → AreRows (front ++ text)
rows_after front text are are' = grind (arith, append-nil, ends_after)

-- ---- the rows of matchings

feed_ends : (front : List ℕ) → EndsRow (front ++ codes "\n")
feed_ends front = (front, refl)

part_ends : (road : RoadMap) (name : List ℕ) (part : Option (List _))
    → EndsRow (part_row road name part)
part_ends road name None = (
  name ++ codes " none",
  sym (append_assoc name (codes " none") (10 ∷ [])),
)
part_ends road name (Some part) = feed_ends _

place_ends : (road : RoadMap) (name : List ℕ) (place : Place) → EndsRow (place_row road name place)
place_ends road name place = feed_ends _

location_ends : (road : RoadMap) (located : LocatedValue) → EndsRow (location_rows road located)
location_ends road (LocatedLine outer inner) = grind (arith, ends_after, part_ends)
location_ends road (LocatedPoint earliest latest) =
    ends_after (place_row road (codes "earliest") earliest) (place_row road (codes "latest") latest)
    (place_ends road (codes "latest") latest)

entry_ends : (road : RoadMap) (entry : Entry) → EndsRow (entry_rows road entry)
entry_ends road entry =
    let front : List ℕ = codes "matching " ++ key_text entry.key ++ codes "\n"
    ++ point_rows road 1 entry.matched.candidates ++ leg_rows 1 entry.matched.legs
    ++ pieces_row road (codes "route") entry.route in
    ends_after front (location_rows road entry.located) (location_ends road entry.located)

pub entries_are_rows : (road : RoadMap) (entries : List Entry) → AreRows (entries_rows road entries)
entries_are_rows road [] = inl refl
entries_are_rows road (entry ∷ entries) =
    rows_after (entry_rows road entry) (entries_rows road entries) (inr (entry_ends road entry))
    (entries_are_rows road entries)

-- ---- the rows of matchings in detail

detailed_ends : (road : RoadMap) (one : Detailed) → EndsRow (detailed_rows road one)
detailed_ends road one =
    let front : List ℕ = codes "matching " ++ key_text one.entry.key
    ++ likely_text one.detail.likely ++ codes "\n" ++ detail_rows road one.detail
    ++ pieces_row road (codes "route") one.entry.route in
    ends_after front (location_rows road one.entry.located)
    (location_ends road one.entry.located)

detailed_from : (road : RoadMap) (number : ℕ) (all : List Detailed)
    → AreRows (texts_from (unnumbered (detailed_rows road)) number all)
detailed_from road number [] = inl refl
detailed_from road number (one ∷ all) = rows_after (detailed_rows road one)
    (texts_from (unnumbered (detailed_rows road)) (number + 1) all) (inr (detailed_ends road one))
    (detailed_from road (number + 1) all)

pub detailed_are_rows : (road : RoadMap) (all : List Detailed)
    → AreRows (texts_of (detailed_rows road) all)
detailed_are_rows road all = detailed_from road 1 all

-- ---- no line feed in the text of a cursor

in_cursor : (key : KeyValue) (mark : Mark) → IsInRange key → LacksFeed (cursor_text key (Some mark))
in_cursor key mark in_range = All-append IsOther (key_text key ++ codes "@") (hexadecimal mark.0)
    (All-append IsOther (key_text key) (codes "@") (in_key _ in_range)
    (by_test (codes "@") refl)) (in_hexadecimal _)

-- ---- the last row

-- the key, if there is one, is in range
abbrev pub IsInRangeIfAny : Option KeyValue → Type 0
IsInRangeIfAny after = (key : KeyValue) → after ≡ Some key → IsInRange key

pub end_is_row : (after : Option KeyValue) (mark : Mark) → IsInRangeIfAny after
    → IsRow (end_row after (Some mark))
end_is_row None mark in_range =
    record { bytes = codes "end"; row_is = refl; others = by_test (codes "end") refl }
end_is_row (Some key) mark in_range = record {
  bytes = codes "more " ++ cursor_text key (Some mark);
  row_is = refl;
  others = All-append IsOther (codes "more ") (cursor_text key (Some mark))
      (by_test (codes "more ") refl) (in_cursor _ _ (in_range key refl));
}
