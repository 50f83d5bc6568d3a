-- The output for all pages is that of runs of one page each that follow each other.
use Rattle.olr_app_laws.proofs.Common.{IsOutcome, Reference, IsFingerprint, AreAnswers, cursor_text, IsInRange, KeyValue, IsPageAfter, PageValue, last_of, CursorRead, Mark, RoadMap, LayersValue, next_after, IsStart, IsOutput, AreLayers, IsOfInputs, IsTextOfPage, key_of, bytes_of, Joinable, format_of, One, Match, ◌≡◌, ℕ, ◌≤◌, List, [], ◌∷◌, ◌++◌, true, false, Option, None, Some, Ok, Bor, refl, sym, ap, ◌∙◌, subst, arith, AllZip, concat, All, Contains, IfSome, append-nil, All-cons, All-nil, Contains-append_left, Contains-append_right, Laws, IsMapOf, AllPages, FollowEachOther, HasSize, Inputs, IsRunAt, Run, files_of, joined_outputs, request_of, Shows, at_bytes}
use Rattle.olr_app.specs.Matching.{ArePagesIn, AreTextsOfPages, next_behind}
use Rattle.olr_app_laws.proofs.Common.{AllAsOne, AreEntriesAt, Bool, Entry, Extras, GeoJson, IsPageAsAsked, as_json, as_text}
use Rattle.olr_keys.specs.Headline.{AreEnded, AreResumed}
use Rattle.olr_request.specs.declared.request.Pages.TheVariants.{All as EveryPage}
use Rattle.olr_app_laws.proofs.HeadlineOutputs.{ShowsPage, next_cursor, page_shows}
use Rattle.olr_app_laws.proofs.HeadlineRests.{next_exists, next_in_range}

-- a run before others
more_runs : (format : Joinable) (inputs : Inputs) (cursor : Option (List ℕ)) (following : List ℕ)
    (run : Run format) (runs : List (Run format)) → IsRunAt inputs cursor run
    → Shows format run.shown (Some following) run.output
    → FollowEachOther inputs (Some following) runs → FollowEachOther inputs cursor (run ∷ runs)
more_runs format inputs cursor following run [] is shows follow = absurd follow
more_runs format inputs cursor following run (next ∷ runs) is shows follow = grind arith

-- the text of a page is that of the pages, where there is one
one_page : (format : Joinable) (extras : Extras) (road : RoadMap) (layers : LayersValue)
    (mark : Option Mark) (page : PageValue) (output : List ℕ)
    → IsTextOfPage extras (format_of format) road layers mark page output
    → ArePagesIn (format_of format) extras road layers mark (page ∷ []) output
one_page as_text extras road layers mark page output is =
    record { texts = output ∷ []; each = (is, tt); whole = sym (append-nil output) }
one_page as_json extras road layers mark page output is =
    record { texts = output ∷ []; each = (is, tt); whole = sym (append-nil output) }

-- the text of pages is their texts
texts_of_pages : (format : Joinable) (extras : Extras) (road : RoadMap) (layers : LayersValue)
    (mark : Option Mark) (pages : List PageValue) (output : List ℕ)
    → ArePagesIn (format_of format) extras road layers mark pages output
    → AreTextsOfPages extras (format_of format) road layers mark pages output
texts_of_pages as_text extras road layers mark pages output is = is
texts_of_pages as_json extras road layers mark pages output is = is

-- a page without more has no next key
no_next : (page : PageValue) → page.more ≡ false → next_after page ≡ None
no_next page none = rw none refl

module _ (laws : Laws) (format : Joinable) (inputs : Inputs) (size : ℕ) (at_least : 1 ≤ size)
    (text : Bor (List ℕ)) (text_is : text.now ≡ inputs.text) (reference : Reference)
    (is_reference : IsOutcome text.now (Ok reference)) (road : RoadMap)
    (is_map : IsMapOf inputs.nodes inputs.lines inputs.bans road) (layers : LayersValue)
    (are_layers : AreLayers inputs.tolerances reference road (Ok layers)) (keys : List KeyValue)
    (are_keys : AreAnswers layers.penalties keys) (mark : Mark) where
  abbrev HasSizeOf : Run format → Type 0
  HasSizeOf run = HasSize size run.request

  -- the runs of some pages, the first of which begins at a cursor
  record AreRuns (cursor : Option (List ℕ)) (output : List ℕ) : Type 0 where
    runs : List (Run format)
    follow : FollowEachOther inputs cursor runs
    sizes : All HasSizeOf runs
    whole : output ≡ joined_outputs runs

  -- a page has more only where the mark is the fingerprint of the inputs
  abbrev AreMarked : List PageValue → Type 0
  AreMarked pages = (page : PageValue) → Contains pages page → page.more ≡ true
      → IsFingerprint text.now inputs.tolerances road mark

  -- ---- a page

  module _ (begins : Option (Bor (List ℕ))) (start : Option CursorRead)
      (is_start : IsStart (bytes_of begins) (Ok start))
      (of_inputs : IfSome start (IsOfInputs text.now inputs.tolerances road)) (page : PageValue)
      (is_page : IsPageAfter keys (key_of start) size page) (output : List ℕ)
      (is_text : IsTextOfPage inputs.extras (format_of format) road layers (Some mark) page output) where
    in_range : (key : KeyValue) → next_after page ≡ Some key → IsInRange key
    in_range = next_in_range _ _ _ _ is_page _ laws.in_range are_layers.0.table are_keys

    shows : ShowsPage inputs.extras.detail inputs.extras format road layers is_text.entries
        (next_cursor (next_after page) mark) output
    shows = page_shows laws.json_reads inputs.extras.detail inputs.extras format road layers is_text.entries
        (next_after page) mark output in_range is_text.text_is

    run : Run format
    run = record {
      request = Match (request_of inputs text size (One begins) (format_of format));
      output = output;
      shown = shows.parts;
    }

    is_run : AreMarked (page ∷ []) → IsRunAt inputs (bytes_of begins) run
    unfolding run
    is_run marked = record {
      asks = record {
        text = text;
        size = size;
        begins = begins;
        request_is = refl;
        text_is = text_is;
        at_least = at_least;
        cursor_is = refl;
      };
      writes = (
        record { reference = reference; start = start },
        (is_reference, is_start),
        (
          road,
          is_map,
          (
            start,
            (refl, of_inputs),
            (
              layers,
              are_layers,
              (
                page ∷ [],
                (keys, are_keys, (page, refl, is_page)),
                record {
                  mark = Some mark;
                  is_mark = (mark, refl, marked);
                  text_is = one_page format inputs.extras road layers (Some mark) page output is_text;
                },
              ),
            ),
          ),
        ),
      );
    }

    shows_next : (after : Option KeyValue) → next_after page ≡ after
        → Shows format run.shown (next_cursor after mark) run.output
    unfolding run
    shows_next after same =
        subst (λ a. Shows format shows.parts (next_cursor a mark) output) same shows.shows

    last_run : AreMarked (page ∷ []) → page.more ≡ false → AreRuns (bytes_of begins) (output ++ [])
    unfolding run
    last_run marked none = record {
      runs = run ∷ [];
      follow = (is_run marked, shows_next None (no_next page none));
      sizes = All-cons HasSizeOf run [] refl (All-nil HasSizeOf);
      whole = refl;
    }

    more : (key : KeyValue) (later : List ℕ) → AreMarked (page ∷ []) → next_after page ≡ Some key
        → AreRuns (Some (cursor_text key (Some mark))) later
        → AreRuns (bytes_of begins) (output ++ later)
    unfolding run
    more key later marked next are = record {
      runs = run ∷ are.runs;
      follow = more_runs format inputs (bytes_of begins) (cursor_text key (Some mark)) run are.runs
          (is_run marked) (shows_next (Some key) next) are.follow;
      sizes = All-cons HasSizeOf run are.runs refl are.sizes;
      whole = ap (λ l. output ++ l) are.whole;
    }

  -- ---- pages

  -- a key after which the pages go on, in range
  cursor_at : (key : KeyValue) → IsInRange key → IsFingerprint text.now inputs.tolerances road mark
      → IsStart (Some (cursor_text key (Some mark)))
      (Ok (Some (record { key = key; mark = Some mark })))
  cursor_at key in_range fingerprint = grind arith

  runs_of : (begins : Option (Bor (List ℕ))) (start : Option CursorRead) (after : Option KeyValue)
      → IsStart (bytes_of begins) (Ok start) → key_of start ≡ after
      → IfSome start (IsOfInputs text.now inputs.tolerances road) → (pages : List PageValue)
      (texts : List (List ℕ)) → AreResumed keys after size pages → AreEnded pages → AreMarked pages
      → AllZip (IsTextOfPage inputs.extras (format_of format) road layers (Some mark)) pages texts
      → AreRuns (bytes_of begins) (concat texts)
  runs_of begins start after is_start at of_inputs [] texts resumed ended marked each = absurd ended
  runs_of begins start after is_start at of_inputs (page ∷ pages) [] resumed ended marked each =
      absurd each
  runs_of begins start after is_start at of_inputs (page ∷ []) (output ∷ other ∷ texts) resumed
      ended marked each = absurd each.1
  runs_of begins start after is_start at of_inputs (page ∷ []) (output ∷ []) resumed ended marked
      each =
      last_run begins start is_start of_inputs page (rw at resumed.0) output each.0 marked ended
  runs_of begins start after is_start at of_inputs (page ∷ next ∷ pages) (output ∷ texts) resumed
      ended marked each =
      let is_page : IsPageAfter keys (key_of start) size page = rw at resumed.0 in
      let last = next_exists _ _ _ _ is_page at_least ended.0 in
      let here : AreMarked (page ∷ []) =
      λ one there. marked one (Contains-append_left (page ∷ []) (next ∷ pages) one there) in
      let fingerprint = here page (0, omega arith, refl) ended.0 in
      more begins start is_start of_inputs page is_page output each.0 last.0 (concat texts) here
      last.1
      (runs_of (Some (at_bytes (cursor_text last.0 (Some mark))))
      (Some (record { key = last.0; mark = Some mark })) (last_of after page.keys)
      (cursor_at last.0 (in_range begins start is_start of_inputs page is_page output each.0 last.0
      last.1) fingerprint) (sym (last.2 after)) fingerprint (next ∷ pages) texts resumed.1 ended.1
      (λ one there. marked one (Contains-append_right (page ∷ []) (next ∷ pages) one there)) each.1)

pub all_pages : Laws → AllPages
all_pages laws format inputs size request output asks is =
    let all : IsOutput (files_of inputs)
    (Match (request_of inputs asks.text size EveryPage (format_of format))) output = subst (λ r. IsOutput (files_of inputs) r output) asks.request_is is in
    let stages = all.2.2 in
    let pages = stages.2.2.1.2 in
    let printed = stages.2.2.2 in
    let texts = texts_of_pages format inputs.extras all.2.0 stages.2.0 printed.mark stages.2.2.0
    output printed.text_is in
    let runs = runs_of laws format inputs size asks.at_least asks.text asks.text_is
    all.0.reference all.1.0 all.2.0 all.2.1 stages.2.0 stages.2.1 stages.2.2.1.0 stages.2.2.1.1
    printed.is_mark.0 None None None refl refl tt stages.2.2.0 texts.texts pages.resumed
    pages.ended printed.is_mark.2 (subst (λ mark.
    AllZip (IsTextOfPage inputs.extras (format_of format) all.2.0 stages.2.0 mark) stages.2.2.0
    texts.texts) printed.is_mark.1 texts.each) in
    record {
      runs = runs.runs;
      follow = runs.follow;
      sizes = runs.sizes;
      whole = texts.whole ∙ runs.whole;
    }

-- ---- as GeoJSON

-- no page is behind the last one
none_behind : (pages : List PageValue) → AreEnded pages → next_behind pages ≡ None
none_behind [] ended = absurd ended
none_behind (page ∷ []) ended = no_next page ended
none_behind (page ∷ next ∷ pages) ended = none_behind (next ∷ pages) ended.1

-- where no page follows, the mark isn't written
unmarked : (detail : Bool) (extras : Extras) (road : RoadMap) (layers : LayersValue)
    (entries : List Entry) (mark : Option Mark) (output : List ℕ)
    → IsPageAsAsked detail extras GeoJson road layers entries None mark output
    → IsPageAsAsked detail extras GeoJson road layers entries None None output
unmarked false extras road layers entries mark output is = is
unmarked true extras road layers entries mark output is =
    record { all = is.all; are = is.are; text_is = is.text_is }

pub all_as_one : AllAsOne
all_as_one inputs size request output asks is =
    let all : IsOutput (files_of inputs)
    (Match (request_of inputs asks.text size EveryPage GeoJson)) output =
    subst (λ r. IsOutput (files_of inputs) r output) asks.request_is is in
    let stages = all.2.2 in
    let layers = stages.2.0 in
    let pages = stages.2.2.1.2 in
    let printed = stages.2.2.2 in
    let extras = inputs.extras in
    record {
      all = record {
        road = all.2.0;
        layers = layers;
        keys = stages.2.2.1.0;
        is_map = all.2.1;
        is_reference = subst (λ text. IsOutcome text (Ok layers.reference)) asks.text_is
            (subst (λ reference. IsOutcome asks.text.now (Ok reference)) (sym stages.2.1.1)
            all.1.0);
        are_tolerances = stages.2.1.2;
        are_layers = stages.2.1.0;
        are_keys = stages.2.2.1.1;
      };
      entries = printed.text_is.entries;
      are = subst (λ keys. AreEntriesAt all.2.0 layers keys printed.text_is.entries) pages.keys
          printed.text_is.are;
      output_is = unmarked extras.detail extras all.2.0 layers printed.text_is.entries printed.mark
          output (subst (λ next. IsPageAsAsked extras.detail extras GeoJson all.2.0 layers
          printed.text_is.entries next printed.mark output)
          (none_behind stages.2.2.0 pages.ended) printed.text_is.text_is);
    }
