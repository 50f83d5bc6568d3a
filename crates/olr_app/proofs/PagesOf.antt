-- The parts, the keys and the texts of pages, page by page; and why a page isn't there.
use Rattle.std.proofs.Math.Seq.{take-suc}
use Rattle.std.proofs.lemmas.List.Folds.{concat-append}
use Rattle.olr_app.proofs.Common.{RoadMap, AreEntriesAt, Entry, IsMatchedBy, Matched, AreAnswers, IsPosition, KeyValue, IsKey, PageValue, IsPageAfter, IsRestAfter, Penalties, CursorRead, Mark, Page, LayersValue, key_of, ArePages, ArePagesAsked, values_of, ArePagesIn, Extras, IsTextOfPage, Reference, AndThen, IsStageFault, Fault, Format, MatchRequest, Bool, Pages, One, ◌≡◌, ℕ, List, [], ◌∷◌, Option, None, Some, Ok, Err, All, Contains, refl, inl, inr, ◌++◌, map, take, ap, sym, subst, ◌+◌, ◌≤◌, ◌<◌, add-one, length, true, false, ◌∙◌, append-nil, take_all, All-nil, All-cons, All-head, All-tail, All-take, All-contains, All-map, AllZip, concat, Result, slice_index_or, AreEntriesOf, IsEntryAt, IsEntryOf, keys_of}
use Rattle.std.proofs.Common.{suc, zero, ◌-◌, arith}
use Rattle.std.proofs.lemmas.Option.{same_Some, slice_get_past, slice_get_within}
use Rattle.std.specs.Prelude.{slice_get}
use Rattle.olr_app.proofs.Features.{collected, of_pages}
use Rattle.olr_app.specs.Matching.{next_behind}
use Rattle.olr_app.specs.Page.{IsPageAsAsked, IsPageTextWith}
use Rattle.olr_app.specs.inner.Added.{AreAddedFor, AreFeatures, AreFeaturesOfKeys, IsAddedFor}
use Rattle.olr_app.specs.inner.PageOfParts.{AreFeaturesOfParts, IsJsonOfParts, IsPageOfParts, IsTextOfParts}
use Rattle.olr_detail.specs.GeoJson.{page_members}
use Rattle.olr_geojson.specs.Collection.{collection_text}
use Rattle.olr_geojson.specs.Feature.{Feature, feature_text}
use Rattle.olr_geojson.specs.Joined.{behind_commas}
use Rattle.olr_report.specs.ShownMap.{shown_as}
use Rattle.olr_detail.specs.MatchingDetail.{Detailed, entries_of}
use Rattle.olr_detail.specs.Page.{AreDetailed}
use Rattle.olr_keys.specs.Headline.{joined}
use Rattle.olr_keys.specs.Page.{page_of}
use Rattle.olr_keys.specs.declared.pages.PageFault.{PageFault}
use Rattle.olr_keys.specs.declared.pages.PageFault.TheVariants.{CursorNotHere, NoMemory}
use Rattle.olr_report.specs.Text.{next_after}
use Rattle.olr_road.proofs.Zips.{zip_push}
use Rattle.olr_request.specs.Fault.{fault_of_page}
use Rattle.olr_request.specs.declared.request.Format.TheVariants.{GeoJson, Json, Text}
use Rattle.olr_request.specs.declared.request.Pages.TheVariants.{All as AllPages}
use Rattle.olr_request.specs.declared.fault.Fault.TheVariants as fault

-- what a relation to some keys gives holds of all that is related to them
pub all_related : {A B : Type 0} (K : A → Type 0) (R : A → B → Type 0) (P : B → Type 0)
    (keys : List A) (all : List B) → All K keys → AllZip R keys all
    → ((key : A) (one : B) → K key → R key one → P one) → All P all
all_related K R P [] [] keys is each = All-nil P
all_related K R P (key ∷ more) (one ∷ all) keys is each =
    All-cons P one all (each key one (All-head K key more keys) is.0)
    (all_related K R P more all (All-tail K key more keys) is.1 each)
all_related K R P _ _ keys is each = absurd is

-- a position that isn't in the answers is the key of a cursor, and not that of a matching
pub not_here : (penalties : Penalties) (answers : List KeyValue) (start : Option CursorRead)
    → AreAnswers penalties answers → (IsPosition answers (key_of start) → ⊥)
    → (read : CursorRead) × (start ≡ Some read) × ¬ (IsKey penalties read.key)
not_here penalties answers None are never = absurd (never tt)
not_here penalties answers (Some read) are never = (read, refl, λ is. never (are.each read.key is))

-- the fault of a page is that of a stage which has the one where the cursor isn't here
pub page_fault : {A : Type 0} (Stage : Result A Fault → Type 0) (why : PageFault)
    → (why ≡ CursorNotHere → Stage (Err fault.CursorNotHere))
    → IsStageFault Stage (fault_of_page why)
page_fault Stage CursorNotHere is = is refl
page_fault Stage NoMemory is = tt

-- ---- stages

-- the fault of the first of two stages is that of both
pub fault_here : {A B : Type 0} (First : Result A Fault → Type 0) (Next : A → Result B Fault
    → Type 0) (why : Fault) → IsStageFault First why
    → IsStageFault (AndThen First Next) why
fault_here First Next fault.NoMemory is = tt
fault_here First Next other is = inl is

-- where the first stage finds something, the fault of the second is that of both
pub fault_after : {A B : Type 0} (First : Result A Fault → Type 0) (Next : A → Result B Fault
    → Type 0) (between : A) (why : Fault) → First (Ok between)
    → IsStageFault (Next between) why → IsStageFault (AndThen First Next) why
fault_after First Next between fault.NoMemory first is = tt
fault_after First Next between other first is = inr (between, first, is)

-- ---- parts of lists

all_left : {X : Type 0} (P : X → Type 0) (xs ys : List X) → All P (xs ++ ys) → All P xs
all_left P [] ys all = All-nil P
all_left P (x ∷ xs) ys all = All-cons P x xs (All-head P x (xs ++ ys) all)
    (all_left P xs ys (All-tail P x (xs ++ ys) all))

all_right : {X : Type 0} (P : X → Type 0) (xs ys : List X) → All P (xs ++ ys) → All P ys
all_right P [] ys all = all
all_right P (x ∷ xs) ys all = all_right P xs ys (All-tail P x (xs ++ ys) all)

all_unmapped : {X Y : Type 0} (P : X → Type 0) (f : Y → X) (ys : List Y) → All P (map f ys)
    → All (λ (y : Y). P (f y)) ys
all_unmapped {X} {Y} P f [] all = All-nil (λ (y : Y). P (f y))
all_unmapped {X} {Y} P f (y ∷ ys) all =
    All-cons (λ (one : Y). P (f one)) y ys (All-head P (f y) (map f ys) all)
    (all_unmapped P f ys (All-tail P (f y) (map f ys) all))

-- ---- pages

module _ (P : KeyValue → Type 0) where
  of_rest : (answers : List KeyValue) (after : Option KeyValue) (rest : List KeyValue)
      → IsRestAfter answers after rest → All P answers → All P rest
  of_rest answers None rest is all = rw is all
  of_rest answers (Some key) rest is all =
      All-tail P key rest (all_right P is.0 (key ∷ rest) (rw (sym is.1) all))

  abbrev OfPage : PageValue → Type 0
  OfPage page = All P page.keys

  of_page : (answers : List KeyValue) (after : Option KeyValue) (size : ℕ) (page : PageValue)
      → IsPageAfter answers after size page → All P answers → OfPage page
  of_page answers after size page is all = rw is.is_page.keys
      (All-take P size is.rest (of_rest answers after is.rest is.is_rest all))

  of_joined : (pages : List PageValue) → All P (joined pages) → All OfPage pages
  of_joined [] all = All-nil OfPage
  of_joined (page ∷ pages) all = All-cons OfPage page pages
      (all_left P page.keys (joined pages) all)
      (of_joined pages (all_right P page.keys (joined pages) all))

  of_asked : (answers : List KeyValue) (size : ℕ) (pages : Pages) (after : Option KeyValue)
      (list : List PageValue) → ArePagesAsked answers size pages after list → All P answers
      → All OfPage list
  of_asked answers size AllPages after list asked all =
      of_joined list (of_rest answers None (joined list) asked.keys all)
  of_asked answers size (One cursor) after list asked all = rw asked.1
      (All-cons OfPage asked.0 [] (of_page answers after size asked.0 asked.2 all) (All-nil OfPage))

-- the keys of the pages that are asked for are those of matchings
pub keys_of_pages : (asked : MatchRequest) (layers : LayersValue) (start : Option CursorRead)
    (list : List Page) → ArePages asked layers start (Ok (values_of list))
    → All (λ (page : Page). All (IsKey layers.penalties) page.keys.items) list
keys_of_pages asked layers start list are =
    all_unmapped (λ (page : PageValue). All (IsKey layers.penalties) page.keys) page_of list
    (of_asked (IsKey layers.penalties) are.0 asked.size asked.pages (key_of start) (values_of list)
    are.2 are.1.only)

-- where no page has more, nothing is asked of the mark
pub no_mark_needed : (pages : List Page) (page : PageValue) (X : Type 0)
    → All (λ (one : Page). one.more ≡ false) pages → Contains (values_of pages) page
    → page.more ≡ true → X
no_mark_needed pages page X none there more =
    let never = All-contains (λ (one : PageValue). one.more ≡ false) (values_of pages) page
    (All-map (λ (one : PageValue). one.more ≡ false) page_of pages none) there in
    absurd cc

-- ---- two lists, element by element

zip_values : {X Y Z : Type 0} (R : X → Y → Type 0) (f : Z → X) (zs : List Z) (ys : List Y)
    → AllZip (λ (z : Z) (y : Y). R (f z) y) zs ys → AllZip R (map f zs) ys
zip_values R f [] [] they = tt
zip_values R f (z ∷ zs) (y ∷ ys) they = (they.0, zip_values R f zs ys they.1)
zip_values R f _ _ they = absurd they

-- ---- the matchings of a page

-- the entries of keys and of the parts of each are the matchings of the keys
module _ (road : RoadMap) (layers : LayersValue) where
  each_at : (entries : List Entry)
      → AllZip (IsMatchedBy road layers) (keys_of entries) (map (λ entry. entry.matched) entries)
      → All (IsEntryOf layers.reference) entries → All (IsEntryAt road layers) entries
  each_at [] zip are = All-nil (IsEntryAt road layers)
  each_at (entry ∷ entries) zip are =
      All-cons (IsEntryAt road layers) entry entries
      (record { parts = zip.0; is_entry = All-head (IsEntryOf layers.reference) entry entries are })
      (each_at entries zip.1 (All-tail (IsEntryOf layers.reference) entry entries are))

  pub entries_at : {keys : List KeyValue} {matched : List Matched} {entries : List Entry}
      → AllZip (IsMatchedBy road layers) keys matched
      → AreEntriesOf layers.reference keys matched entries → AreEntriesAt road layers keys entries
  entries_at {keys} {matched} {entries} zip are = record {
    keys_are = are.keys_are;
    each = each_at entries (subst (λ k.
        AllZip (IsMatchedBy road layers) k (map (λ entry. entry.matched) entries))
        (sym are.keys_are) (subst (λ m. AllZip (IsMatchedBy road layers) keys m)
        (sym are.matched_are) zip)) are.each;
  }

-- the map with shapes or without is this map
pub same_road : (shape : Bool) (road : RoadMap) (reference : Reference)
    → (shown_as shape road reference).road ≡ road
same_road false road reference = refl
same_road true road reference = refl

module _ (extras : Extras) (road : RoadMap) (layers : LayersValue) (page : PageValue)
    (matched : List Matched) (zip : AllZip (IsMatchedBy road layers) page.keys matched) where
  -- the text of a page
  of_entries : (detail : Bool) (format : Format) (entries : List Entry) {mark : Option Mark}
      {text : List ℕ} → extras.detail ≡ detail
      → AreEntriesOf layers.reference page.keys matched entries
      → IsPageAsAsked detail extras format road layers entries (next_after page) mark text
      → IsTextOfPage extras format road layers mark page text
  of_entries detail format entries {mark} {text} same are text_is = record {
    entries = entries;
    are = entries_at road layers zip are;
    text_is = subst (λ d.
        IsPageAsAsked d extras format road layers entries (next_after page) mark text) (sym same)
        text_is;
  }

  -- the same in detail
  of_details : (format : Format) (all : List Detailed) {mark : Option Mark} {text : List ℕ}
      → extras.detail ≡ true → AreDetailed layers.tolerances layers.reference road page matched all
      → IsPageTextWith extras road layers.reference format all (next_after page) mark text
      → IsTextOfPage extras format road layers mark page text
  of_details format all same are text_is = of_entries true format (entries_of all) same are.entries
      (record {
        all = all;
        are = record { entries_are = refl; each = are.each };
        text_is = text_is;
      })

  -- the features of a page
  of_features : (detail : Bool) (entries : List Entry) (all : List Feature) {added : List ℕ}
      → extras.detail ≡ detail → AreEntriesOf layers.reference page.keys matched entries
      → AreFeatures detail extras road layers entries all
      → added ≡ behind_commas feature_text all
      → AreFeaturesOfKeys extras road layers page.keys added
  of_features detail entries all same are are_features added_is = record {
    entries = entries;
    are = entries_at road layers zip are;
    all = all;
    are_features = subst (λ d. AreFeatures d extras road layers entries all) (sym same)
        are_features;
    added_is = added_is;
  }

  -- what a page adds to the output, from what the parts of its matchings give
  added_of_text : (detail : Bool) {mark : Option Mark} {added : List ℕ} → extras.detail ≡ detail
      → IsTextOfParts detail layers.tolerances layers.reference road page matched mark added
      → IsTextOfPage extras Text road layers mark page added
  added_of_text false same is = of_entries false Text is.entries same is.are_entries is.text_is
  added_of_text true same is = of_details Text is.all same is.are is.text_is

  added_of_json : (detail : Bool) {mark : Option Mark} {added : List ℕ} → extras.detail ≡ detail
      → IsJsonOfParts detail extras.shape layers.tolerances layers.reference road page matched mark
      added → IsTextOfPage extras Json road layers mark page added
  added_of_json false same is = of_entries false Json is.entries same is.are_entries is.json
  added_of_json true same is = of_details Json is.all same is.are is.json

  added_of_features : (detail : Bool) {added : List ℕ} → extras.detail ≡ detail
      → AreFeaturesOfParts detail extras layers.tolerances layers.reference road page matched added
      → AreFeaturesOfKeys extras road layers page.keys added
  added_of_features false same is = of_features false is.entries _ same is.are refl is.text_is
  added_of_features true same is =
      let are = subst (λ r. AreDetailed layers.tolerances layers.reference r page matched is.all)
      (same_road extras.shape road layers.reference) is.are in
      of_features true (entries_of is.all) _ same are.entries
      (is.all, record { entries_are = refl; each = are.each }, refl) is.text_is

  pub added_of_parts : (format : Format) (mark : Option Mark) (added : List ℕ)
      → IsPageOfParts format extras layers.tolerances layers.reference road page matched mark added
      → IsAddedFor format extras road layers mark page added
  added_of_parts Text mark added is = added_of_text extras.detail refl is
  added_of_parts Json mark added is = added_of_json extras.detail refl is
  added_of_parts GeoJson mark added is = added_of_features extras.detail refl is

-- ---- what pages added so far

module _ (extras : Extras) (format : Format) (road : RoadMap) (layers : LayersValue)
    (mark : Option Mark) where
  abbrev IsAdded : Page → List ℕ → Type 0
  IsAdded page added = IsAddedFor format extras road layers mark (page_of page) added

  abbrev pub AddsPages : List Page → List ℕ → Type 0
  AddsPages pages output =
      (texts : List (List ℕ)) × AllZip IsAdded pages texts × (output ≡ concat texts)

  pub one_more : (pages : List Page) (index : ℕ) (page : Page) (output added longer : List ℕ)
      → index < length pages → page ≡ slice_index_or pages index page
      → AddsPages (take index pages) output
      → IsAddedFor format extras road layers mark (page_of page) added → longer ≡ output ++ added
      → AddsPages (take (index + 1) pages) longer
  one_more pages index page output added longer inside is so_far adds grown =
      let next : take index pages ++ page ∷ [] ≡ take (index + 1) pages = simp add-one
      (ap (λ e. take index pages ++ e ∷ []) is ∙ sym (take-suc pages index page inside)) in (
        so_far.0 ++ added ∷ [],
        subst (λ l. AllZip IsAdded l (so_far.0 ++ added ∷ [])) next
            (zip_push IsAdded (take index pages) so_far.0 page added so_far.1 adds),
        grown ∙ ap (λ l. l ++ added) so_far.2
            ∙ ap (λ l. concat so_far.0 ++ l) (sym (append-nil added))
            ∙ sym (concat-append so_far.0 (added ∷ [])),
      )

  pub all_pages_added : (pages : List Page) (index : ℕ) (output : List ℕ) → length pages ≤ index
      → AddsPages (take index pages) output
      → AreAddedFor extras format road layers mark (values_of pages) output
  all_pages_added pages index output past adds = record {
    texts = adds.0;
    each = zip_values (IsAddedFor format extras road layers mark) page_of pages adds.0
        (subst (λ l. AllZip IsAdded l adds.0) (take_all index pages past) adds.1);
    whole = adds.2;
  }

-- ---- the text of pages

-- a page that is the last one
last_at : (pages : List Page) (index : ℕ) (page : Page) → suc index ≡ length pages
    → Some page ≡ slice_get pages index
    → next_after (page_of page) ≡ next_behind (values_of pages)
last_at [] index page last is = absurd (omega arith)
last_at (first ∷ []) zero page last is = ap (λ p. next_after (page_of p)) (same_Some _ _ is)
last_at (first ∷ []) (suc index) page last is = absurd (omega arith)
last_at (first ∷ second ∷ pages) zero page last is = absurd (omega arith)
last_at (first ∷ second ∷ pages) (suc index) page last is =
    last_at (second ∷ pages) index page (omega arith) is

pub behind_last : (pages : List Page) (page : Page)
    → Some page ≡ slice_get pages (length pages - 1)
    → next_after (page_of page) ≡ next_behind (values_of pages)
behind_last pages page is = grind (arith, last_at, slice_get_within)

none_past : (pages : List Page) (index : ℕ) → None ≡ slice_get pages index → length pages ≤ index
none_past [] index is = omega arith
none_past (page ∷ pages) zero is = absurd cc
none_past (page ∷ pages) (suc index) is = omega (arith, none_past pages index is)

pub behind_none : (pages : List Page) → None ≡ slice_get pages (length pages - 1)
    → None ≡ next_behind (values_of pages)
behind_none [] is = refl
behind_none (page ∷ pages) is = absurd (omega (arith, none_past (page ∷ pages) _ is))

module _ (extras : Extras) (road : RoadMap) (layers : LayersValue) (mark : Option Mark)
    (pages : List PageValue) where
  -- texts alone
  pub texts_of_pages : (format : Format) (output : List ℕ) → (format ≡ GeoJson → ⊥)
      → AreAddedFor extras format road layers mark pages output
      → ArePagesIn format extras road layers mark pages output
  texts_of_pages Text output other is =
      record { texts = is.texts; each = is.each; whole = is.whole }
  texts_of_pages Json output other is =
      record { texts = is.texts; each = is.each; whole = is.whole }
  texts_of_pages GeoJson output other is = absurd (other refl)

  -- one collection
  pub collection_of_pages : (format : Format) (added output : List ℕ) → format ≡ GeoJson
      → AreAddedFor extras format road layers mark pages added
      → (next : Option KeyValue) (shown : Option Mark) → next ≡ next_behind pages → shown ≡ mark
      → ((all : List Feature) → added ≡ behind_commas feature_text all
      → output ≡ collection_text [] all (page_members next shown))
      → ArePagesIn format extras road layers mark pages output
  collection_of_pages Text added output same is next shown next_is shown_is makes = absurd cc
  collection_of_pages Json added output same is next shown next_is shown_is makes = absurd cc
  collection_of_pages GeoJson added output same is next shown next_is shown_is makes =
      collected extras road layers mark pages added output
      (rw is.whole (of_pages extras road layers pages is.texts is.each))
      (λ all features. makes all features
      ∙ ap (λ n. collection_text [] all (page_members n shown)) next_is
      ∙ ap (λ m. collection_text [] all (page_members (next_behind pages) m)) shown_is)
