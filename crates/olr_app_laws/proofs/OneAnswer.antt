-- A request has one answer by known texts, from the laws of the crates below.
use Rattle.olr_text.specs.JsonValues.{IsJsonLine}
use Rattle.olr_app_laws.proofs.Common.{Reference, IsSoundMap, RoadMap, AreLists, Entry, Candidate, Tolerances, AreAnswers, KeyValue, IsKey, IsPageAfter, PageValue, Penalties, CursorRead, Mark, LayersValue, next_after, IsStart, Accepts, IsAnswer, IsAnswerOf, IsAnswerOn, IsMapOfFiles, fault_of_map, fault_of, OneOutcome, AreLayers, AreMatchings, ArePages, ArePagesAsked, IsOfInputs, IsPageAsAsked, IsPageIn, IsPageTextWith, IsPrinted, IsStartHere, IsTextOfPage, OnLayers, OnStart, key_of, text_of, Accepted, TooManyCandidates, Format, Json, Text, MatchRequest, Pages, One, Request, Candidates, Match, Places, Show, ◌≡◌, ℕ, ◌+◌, suc, Bool, true, false, List, [], ◌∷◌, None, Option, Some, Ok, Err, refl, ap, sym, subst, ◌∙◌, arith, inl, inr, All, All-contains, All-head, All-tail, none-some, AllZip, concat, Contains, IfSome, if◌then◌else◌, Data, Laws, known, RefusedByName, cursor_in, Why, accepted_once, IsSingle, first_then, no_fault_once, no_ok_and_err, same_err, cursor_of}
use Rattle.olr_detail.specs.MatchingDetail.{Detailed, IsDetailed, entries_of}
use Rattle.olr_detail.specs.declared.candidate_detail.CandidateDetail.{CandidateDetail}
use Rattle.olr_app.proofs.PagesOf.{same_road}
use Rattle.olr_app.specs.Matching.{ArePagesIn, AreTextsOfPages, next_behind}
use Rattle.olr_app.specs.Page.{detailed_features_of, features_of}
use Rattle.olr_app_laws.proofs.Common.{AreEntriesAt, Contains-append_right, Extras, GeoJson, shown_for}
use Rattle.olr_app_laws.proofs.HeadlineRests.{next_more}
use Rattle.olr_detail.specs.GeoJson.{page_members}
use Rattle.olr_detail.specs.Json.{page_object as detailed_page}
use Rattle.olr_detail.specs.Text.{page_text as detailed_page_text}
use Rattle.olr_geojson.specs.Collection.{collection_text}
use Rattle.olr_keys.specs.Headline.{joined}
use Rattle.olr_likely.specs.Asking.{AreAsked}
use Rattle.olr_likely.specs.GeoJson.{shown_collection}
use Rattle.olr_likely.specs.Json.{shown_object}
use Rattle.olr_report.specs.Json.{page_object}
use Rattle.olr_report.specs.ShownMap.{MapShown}
use Rattle.olr_report.specs.Text.{page_text}
use Rattle.olr_likely.specs.Text.{shown_text}
use Rattle.olr_likely.specs.declared.showing.ShownPlaces.{ShownPlaces}
use Rattle.olr_why.specs.Reasons.{WhyValue}
use Rattle.olr_app.specs.Answer.{IsReferenceIn}
use Rattle.olr_app.specs.Listing.{IsListed, IsListingAsAsked, IsListingIn, IsListingTextWith}
use Rattle.olr_app.specs.Matching.{IsMarkOf}
use Rattle.olr_app.specs.Places.{ArePlaces, ArePlacesOn, ArePlacesWith, IsConfidenceOf, IsPlacesIn, asked_places}
use Rattle.olr_app.specs.Stages.{OrTooMany}
use Rattle.olr_app.specs.Why.{AreReasons, IsWhyIn}
use Rattle.olr_request.specs.declared.confidence_file.ConfidenceFile.{ConfidenceFile}
use Rattle.olr_request.specs.declared.confidence_file.ConfidenceFile.TheVariants.{Bad, Read}
use Rattle.olr_request.specs.declared.request.Pages.TheVariants.{All as EveryPage}
use Rattle.olr_request.specs.declared.request.PlacesRequest.{PlacesRequest}

-- two relations that give each item the same give a list the same
zip_once : {A B : Type 0} (R S : A → B → Type 0) (xs : List A) (ys zs : List B)
    → ((x : A) (y z : B) → Contains xs x → R x y → S x z → y ≡ z) → AllZip R xs ys
    → AllZip S xs zs → ys ≡ zs
zip_once R S [] [] [] same is its = refl
zip_once R S [] [] (z ∷ zs) same is its = absurd its
zip_once R S [] (y ∷ ys) zs same is its = absurd is
zip_once R S (x ∷ xs) [] zs same is its = absurd is
zip_once R S (x ∷ xs) (y ∷ ys) [] same is its = absurd its
zip_once R S (x ∷ xs) (y ∷ ys) (z ∷ zs) same is its = grind (
  arith,
  zip_once R S xs ys zs
      (λ a b c has. same a b c (suc has.0, omega (arith, has.1), has.2)) is.1 its.1,
)

-- ---- an output in a format

-- the line of a value is one
same_line : {value other : Data} {text again : List ℕ} → value ≡ other → IsJsonLine value text
    → IsJsonLine other again → text ≡ again
same_line same is its = grind arith

reference_in : (format : Format) (reference : Reference) (text other : List ℕ)
    → IsReferenceIn format reference text → IsReferenceIn format reference other → text ≡ other
reference_in Text reference text other is again = is ∙ sym again
reference_in Json reference text other is again = same_line refl is again
reference_in GeoJson reference text other is again = same_line refl is again

listing_in : (format : Format) (on : MapShown) (lists : List (List Candidate))
    (text other : List ℕ) → IsListingIn format on lists text
    → IsListingIn format on lists other → text ≡ other
listing_in Text on lists text other is again = is ∙ sym again
listing_in Json on lists text other is again = same_line refl is again
listing_in GeoJson on lists text other is again = is ∙ sym again

details_in : (format : Format) (on : MapShown) (details : List (List CandidateDetail))
    (text other : List ℕ) → IsListingTextWith format on details text
    → IsListingTextWith format on details other → text ≡ other
details_in Text on details text other is again = is ∙ sym again
details_in Json on details text other is again = same_line refl is again
details_in GeoJson on details text other is again = is ∙ sym again

-- places that have one text, one JSON and one GeoJSON
places_in : (format : Format) (extras : Extras) (road : RoadMap) (reference : Reference)
    (one other : ShownPlaces) (text again : List ℕ) → shown_text road one ≡ shown_text road other
    → shown_object (shown_for extras road reference) one
    ≡ shown_object (shown_for extras road reference) other
    → shown_collection (shown_for extras road reference) reference extras.part one
    ≡ shown_collection (shown_for extras road reference) reference extras.part other
    → IsPlacesIn format extras road reference one text
    → IsPlacesIn format extras road reference other again → text ≡ again
places_in Text extras road reference one other text again rows values features is its =
    is ∙ rows ∙ sym its
places_in Json extras road reference one other text again rows values features is its =
    same_line values is its
places_in GeoJson extras road reference one other text again rows values features is its =
    is ∙ features ∙ sym its

reasons_in : (format : Format) (spots : Bool) (road : RoadMap) (why : WhyValue)
    (text again : List ℕ) → IsWhyIn format spots road why text
    → IsWhyIn format spots road why again → text ≡ again
reasons_in Text spots road why text again is its = is ∙ sym its
reasons_in Json spots road why text again is its = same_line refl is its
reasons_in GeoJson spots road why text again is its = same_line refl is its

-- where more follow, pages have one mark
mark_once : (marks : Bool) (text : List ℕ) (tolerances : Tolerances) (road : RoadMap)
    (pages : List PageValue) (mark other : Option Mark)
    → IsMarkOf marks text tolerances road pages mark
    → IsMarkOf marks text tolerances road pages other
    → (page : PageValue) → Contains pages page → page.more ≡ true → mark ≡ other
mark_once true text tolerances road pages mark other is its page has more =
    let mark_of : List ℕ → Option Mark = λ bytes. Some (record { 0 = bytes }) in
    is.1 ∙ ap mark_of (is.2 page has more ∙ sym (its.2 page has more)) ∙ sym its.1
mark_once false text tolerances road pages mark other is its page has more = is ∙ sym its

-- a page that goes on has more
more_of : (page : PageValue) (key : KeyValue) → next_after page ≡ Some key → page.more ≡ true
more_of page key next = next_more page.more page.keys key next

-- where pages go on, there is one that has more
last_more : (pages : List PageValue) (key : KeyValue) → next_behind pages ≡ Some key
    → (page : PageValue) × Contains pages page × (page.more ≡ true)
last_more [] key next = absurd cc
last_more (page ∷ []) key next = (page, (0, omega arith, refl), more_of page key next)
last_more (page ∷ second ∷ pages) key next =
    let later = last_more (second ∷ pages) key next in
    (later.0, Contains-append_right (page ∷ []) (second ∷ pages) later.0 later.1, later.2)

module _ (laws : Laws) where
  -- ---- candidates and layers

  -- what shows one list of candidates for each point is one thing, or the first point with too many
  -- is one
  lists_or_fault : {A : Type 0} (tolerances : Tolerances) (reference : Reference) (road : RoadMap)
      (Is : A → Type 0) → ((found : A) → Is found
      → (lists : List (List Candidate)) × AreLists tolerances reference road.lines lists)
      → ((one other : A) → Is one → Is other → one ≡ other)
      → IsSingle (OrTooMany tolerances reference road Is)
  lists_or_fault tolerances reference road Is lists once (Ok one) (Ok other) is again = grind arith
  lists_or_fault tolerances reference road Is lists once (Ok one) (Err other) is again =
      let has = lists one is in
      absurd (laws.no_lists_and_too_many _ _ _ has.0 again.0 has.1 again.1.too_many)
  lists_or_fault tolerances reference road Is lists once (Err one) (Ok other) is again =
      let has = lists other again in
      absurd (laws.no_lists_and_too_many _ _ _ has.0 is.0 has.1 is.1.too_many)
  lists_or_fault tolerances reference road Is lists once (Err one) (Err other) is again =
      ap Err (is.2 ∙ ap (λ i. TooManyCandidates (i + 1))
      (laws.first_too_many _ _ _ is.0 again.0 is.1 again.1) ∙ sym again.2)

  pub layers_once : (tolerances : Tolerances) (reference : Reference) (road : RoadMap)
      → IsSingle (AreLayers tolerances reference road)
  layers_once tolerances reference road = lists_or_fault tolerances reference road _
      (λ layers are. (layers.candidates, rw (sym are.1, sym are.2) are.0.lists))
      (λ one other is again.
      laws.layers road one other is.0 again.0 (is.1 ∙ sym again.1) (is.2 ∙ sym again.2))

  listing_once : (detail : Bool) (format : Format) (tolerances : Tolerances)
      (reference : Reference) (on : MapShown) (lists : List (List Candidate)) (text other : List ℕ)
      → IsListingAsAsked detail format tolerances reference on lists text
      → IsListingAsAsked detail format tolerances reference on lists other → text ≡ other
  listing_once false format tolerances reference on lists text other is again =
      listing_in format on lists text other is again
  listing_once true format tolerances reference on lists text other is again =
      let details = laws.listing_detail tolerances reference on.road.lines lists is.details
      again.details is.are again.are in
      details_in format on again.details text other
      (subst (λ list. IsListingTextWith format on list text) details is.text_is) again.text_is

  listed_once : (extras : Extras) (format : Format) (tolerances : Tolerances)
      (reference : Reference) (road : RoadMap)
      → IsSingle (IsListed extras format tolerances reference road)
  listed_once extras format tolerances reference road =
      lists_or_fault tolerances reference road _ (λ text is. (is.lists, is.candidates))
      (λ one other is again. listing_once extras.detail format tolerances reference
      (shown_for extras road reference) is.lists one other is.text_is (rw (laws.lists _ _ _ _ _ is.candidates again.candidates) again.text_is))

  -- ---- pages

  asked_once : {penalties : Penalties} {answers : List KeyValue} (size : ℕ) (pages : Pages)
      (after : Option KeyValue) (one other : List PageValue) → AreAnswers penalties answers
      → ArePagesAsked answers size pages after one → ArePagesAsked answers size pages after other
      → one ≡ other
  asked_once size EveryPage after one other are is again = laws.chain _ _ _ _ _ _ are is again
  asked_once size (One cursor) after one other are is again =
      is.1 ∙ ap (λ page. page ∷ []) (laws.page _ _ _ _ _ _ are is.2 again.2) ∙ sym again.1

  -- no pages come after a key that isn't a matching's; a request for all pages has no cursor
  no_both : {penalties : Penalties} {answers : List KeyValue} (size : ℕ) (pages : Pages)
      (start : Option CursorRead) (list : List PageValue) (read : CursorRead)
      → IsStart (cursor_in pages) (Ok start) → start ≡ Some read → ¬ (IsKey penalties read.key)
      → AreAnswers penalties answers → ArePagesAsked answers size pages (key_of start) list → ⊥
  no_both size EveryPage start list read begins has other are asked =
      none-some read (sym begins ∙ has)
  no_both {penalties} {answers} size (One cursor) start list read begins has other are asked =
      other (All-contains (IsKey penalties) _ _ are.only
      (laws.no_page_after_others _ _ _ _
      (subst (λ s. IsPageAfter answers (key_of s) size asked.0) has asked.2)))

  pages_once : (asked : MatchRequest) (layers : LayersValue) (start : Option CursorRead)
      → IsStart (cursor_in asked.pages) (Ok start) → IsSingle (ArePages asked layers start)
  pages_once asked layers start begins (Ok one) (Ok other) is again =
      ap Ok (asked_once asked.size asked.pages (key_of start) one other is.1 is.2
      (subst (λ answers. ArePagesAsked answers asked.size asked.pages (key_of start) other)
      (laws.list _ _ _ again.1 is.1) again.2))
  pages_once asked layers start begins (Ok one) (Err other) is again = grind (arith, no_both)
  pages_once asked layers start begins (Err one) (Ok other) is again = grind (arith, no_both)
  pages_once asked layers start begins (Err one) (Err other) is again = ap Err (is.0 ∙ sym again.0)

  -- ---- a page in a format

  -- what ends with a page is the same for two marks that are the same where more follow
  ends_alike : {A : Type 0} (ending : Option KeyValue → Option Mark → A) (next : Option KeyValue)
      (mark other : Option Mark)
      → ((one another : Option Mark) → ending None one ≡ ending None another)
      → ((key : KeyValue) → next ≡ Some key → mark ≡ other)
      → ending next mark ≡ ending next other
  ends_alike ending None mark other none same = none mark other
  ends_alike ending (Some key) mark other none same = ap (ending (Some key)) (same key refl)

  module _ (extras : Extras) (road : RoadMap) (reference : Reference) (next : Option KeyValue)
      (mark other : Option Mark) (text again : List ℕ)
      (same : (key : KeyValue) → next ≡ Some key → mark ≡ other) where
    -- the text of a page is one, where more follow by the same mark
    one_in : (format : Format) (entries : List Entry)
        → IsPageIn extras road reference format entries next mark text
        → IsPageIn extras road reference format entries next other again → text ≡ again
    one_in Text entries is its = is
        ∙ ends_alike (λ n m. page_text road entries n m) next mark other (λ a b. refl) same ∙ sym its
    one_in Json entries is its = same_line
        (ends_alike (λ n m. page_object (shown_for extras road reference) entries n m) next mark
        other (λ a b. refl) same) is its
    one_in GeoJson entries is its = is
        ∙ ends_alike (λ n m. collection_text [] (features_of extras road reference entries)
        (page_members n m)) next mark other (λ a b. refl) same ∙ sym its

    -- the same, where what speaks for each matching is shown with it
    one_in_detail : (format : Format) (all : List Detailed)
        → IsPageTextWith extras road reference format all next mark text
        → IsPageTextWith extras road reference format all next other again → text ≡ again
    one_in_detail Text all is its = is
        ∙ ends_alike (λ n m. detailed_page_text road all n m) next mark other (λ a b. refl) same
        ∙ sym its
    one_in_detail Json all is its = same_line
        (ends_alike (λ n m. detailed_page (shown_for extras road reference) all n m) next mark other
        (λ a b. refl) same) is its
    one_in_detail GeoJson all is its = is
        ∙ ends_alike (λ n m. collection_text [] (detailed_features_of extras road reference all)
        (page_members n m)) next mark other (λ a b. refl) same ∙ sym its

  -- what speaks for matchings is one thing for each
  pub detailed_once : (tolerances : Tolerances) (reference : Reference) (road : RoadMap)
      (all others : List Detailed) → entries_of all ≡ entries_of others
      → All (IsDetailed tolerances reference road) all
      → All (IsDetailed tolerances reference road) others → all ≡ others
  detailed_once tolerances reference road [] [] same are their = refl
  detailed_once tolerances reference road [] (other ∷ others) same are their = absurd cc
  detailed_once tolerances reference road (one ∷ all) [] same are their = absurd cc
  detailed_once tolerances reference road (one ∷ all) (other ∷ others) same are their =
      let is_detailed = IsDetailed tolerances reference road in
      let entry : one.entry ≡ other.entry = cc in
      let entries : entries_of all ≡ entries_of others = cc in
      let its = All-head is_detailed other others their in
      let detail = laws.matching_detail tolerances reference road one.entry.matched one.entry.route
      one.detail other.detail (All-head is_detailed one all are) (rw entry its) in
      let rest = detailed_once tolerances reference road all others entries
      (All-tail is_detailed one all are) (All-tail is_detailed other others their) in
      λ k. record { entry = entry k; detail = detail k } ∷ rest k

  module _ (extras : Extras) (road : RoadMap) (layers : LayersValue) where
    asked_page_once : (detail : Bool) (format : Format) (entries : List Entry)
        (next : Option KeyValue) (mark other : Option Mark) (text again : List ℕ)
        → ((key : KeyValue) → next ≡ Some key → mark ≡ other)
        → IsPageAsAsked detail extras format road layers entries next mark text
        → IsPageAsAsked detail extras format road layers entries next other again
        → text ≡ again
    asked_page_once false format entries next mark other text again same is its =
        one_in extras road layers.reference next mark other text again same format entries is its
    asked_page_once true format entries next mark other text again same is its =
        let all = detailed_once layers.tolerances layers.reference road is.all its.all
        (is.are.entries_are ∙ sym its.are.entries_are) is.are.each its.are.each in
        one_in_detail extras road layers.reference next mark other text again same format its.all
        (subst (λ list. IsPageTextWith extras road layers.reference format list next mark text) all
        is.text_is) its.text_is

    module _ (sound : IsSoundMap road) where
      -- matchings of keys have one text, where more follow by the same mark
      keys_once : (format : Format) (keys : List KeyValue) (entries others : List Entry)
          (next : Option KeyValue) (mark other : Option Mark) (text again : List ℕ)
          → ((key : KeyValue) → next ≡ Some key → mark ≡ other)
          → AreEntriesAt road layers keys entries → AreEntriesAt road layers keys others
          → IsPageAsAsked extras.detail extras format road layers entries next mark text
          → IsPageAsAsked extras.detail extras format road layers others next other again
          → text ≡ again
      keys_once format keys entries others next mark other text again same are their is its =
          asked_page_once extras.detail format others next mark other text again same
          (subst (λ list. IsPageAsAsked extras.detail extras format road layers list next mark text)
          (laws.entries road layers sound keys entries others are their) is) its

      pub page_once : (format : Format) (mark other : Option Mark) (page : PageValue)
          (text again : List ℕ) → (page.more ≡ true → mark ≡ other)
          → IsTextOfPage extras format road layers mark page text
          → IsTextOfPage extras format road layers other page again → text ≡ again
      page_once format mark other page text again same is its =
          keys_once format page.keys is.entries its.entries (next_after page) mark other text again
          (λ key next. same (more_of page key next)) is.are its.are is.text_is its.text_is

      texts_once : (format : Format) (mark other : Option Mark)
          (pages : List PageValue) (one another : List ℕ)
          → ((page : PageValue) → Contains pages page → page.more ≡ true → mark ≡ other)
          → AreTextsOfPages extras format road layers mark pages one
          → AreTextsOfPages extras format road layers other pages another → one ≡ another
      texts_once format mark other pages one another same is its =
          is.whole ∙ ap (λ all. concat all)
          (zip_once (IsTextOfPage extras format road layers mark)
          (IsTextOfPage extras format road layers other) pages is.texts its.texts
          (λ page text again has. page_once format mark other page text again (same page has)) is.each
          its.each) ∙ sym its.whole

      -- so have pages
      pages_in_once : (format : Format) (mark other : Option Mark)
          (pages : List PageValue) (one another : List ℕ)
          → ((page : PageValue) → Contains pages page → page.more ≡ true → mark ≡ other)
          → ArePagesIn format extras road layers mark pages one
          → ArePagesIn format extras road layers other pages another → one ≡ another
      pages_in_once Text mark other pages one another same is its =
          texts_once Text mark other pages one another same is its
      pages_in_once Json mark other pages one another same is its =
          texts_once Json mark other pages one another same is its
      pages_in_once GeoJson mark other pages one another same is its =
          keys_once GeoJson (joined pages) is.entries its.entries (next_behind pages) mark other one
          another (λ key next. let last = last_more pages key next in same last.0 last.1 last.2)
          is.are its.are is.text_is its.text_is

  module _ (road : RoadMap) (layers : LayersValue) (sound : IsSoundMap road) where
    printed_once : (marks : Bool) (asked : MatchRequest) (pages : List PageValue)
        → IsSingle (IsPrinted marks asked road layers pages)
    printed_once marks asked pages = no_fault_once _ (λ one other is again.
        pages_in_once asked.extras road layers sound asked.format is.mark again.mark pages one other
        (mark_once marks asked.text.now asked.tolerances road pages is.mark again.mark is.is_mark
        again.is_mark) is.text_is again.text_is)

  -- ---- the cursor

  module _ (marks : Bool) (asked : MatchRequest) (road : RoadMap) where
    abbrev IsItsOwn : CursorRead → Type 0
    IsItsOwn read = IsOfInputs asked.text.now asked.tolerances road read

    -- a cursor isn't of these inputs and of others
    not_both : (start : Option CursorRead) (read : CursorRead) → IfSome start IsItsOwn
        → start ≡ Some read → ¬ (IsItsOwn read) → ⊥
    not_both start read here is other = other (subst (λ s. IfSome s IsItsOwn) is here)

    here_once : (start : Option CursorRead) → IsSingle (IsStartHere asked road start)
    here_once start (Ok one) (Ok other) is again = ap Ok (is.0 ∙ sym again.0)
    here_once start (Ok one) (Err other) is again =
        absurd (not_both start again.1 is.1 again.2 again.3)
    here_once start (Err one) (Ok other) is again = absurd (not_both start is.1 again.1 is.2 is.3)
    here_once start (Err one) (Err other) is again = ap Err (is.0 ∙ sym again.0)

    -- ---- all stages

    matchings_once : IsSoundMap road → (accepted : Accepted)
        → IsStart (cursor_in asked.pages) (Ok accepted.start)
        → IsSingle (AreMatchings marks asked accepted road)
    matchings_once sound accepted begins =
        first_then _ (OnStart marks asked accepted.reference road) (here_once accepted.start)
        (λ here is. first_then _ (OnLayers marks asked here road) (layers_once _ _ _)
        (λ layers are. first_then _ (IsPrinted marks asked road layers)
        (pages_once asked layers here (rw is.0 begins))
        (λ list pages. printed_once road layers sound marks asked list)))

  -- ---- places and reasons

  confidence_once : (file : Option ConfidenceFile) → IsSingle (IsConfidenceOf file)
  confidence_once None one other is again = is ∙ sym again
  confidence_once (Some (Read confidence)) one other is again = is ∙ sym again
  confidence_once (Some Bad) one other is again = is ∙ sym again

  places_once : (asked : PlacesRequest) (reference : Reference) (road : RoadMap)
      → IsSoundMap road → IsSingle (ArePlaces asked reference road)
  places_once asked reference road sound =
      first_then _ (ArePlacesWith asked reference road) (confidence_once asked.confidence)
      (λ confidence its. first_then _ (ArePlacesOn asked confidence road)
      (layers_once asked.tolerances reference road)
      (λ layers are. no_fault_once _ (λ one other is again.
      let places = asked_places asked confidence in
      let extras = asked.extras in
      let reference = layers.reference in
      let on = shown_for extras road reference in
      let same = sym (same_road extras.shape road reference) in
      let on_it : (shown : ShownPlaces) → AreAsked places road layers shown
      → AreAsked places on.road layers shown =
      λ shown asks. subst (λ r. AreAsked places r layers shown) same asks in
      let sound_on : IsSoundMap on.road = subst (λ r. IsSoundMap r) same sound in
      let rows = laws.places_text laws.looking places road layers is.shown again.shown sound
      is.are_asked again.are_asked in
      let values = laws.places_json laws.looking places on layers is.shown again.shown sound_on
      (on_it is.shown is.are_asked) (on_it again.shown again.are_asked) in
      let features = laws.places_geojson laws.looking places on layers reference extras.part
      is.shown again.shown sound_on (on_it is.shown is.are_asked)
      (on_it again.shown again.are_asked) in
      places_in asked.format extras road reference is.shown again.shown one other rows values
      features is.output_is again.output_is)))

  reasons_once : (format : Format) (spots : Bool) (tolerances : Tolerances) (nearest : ℕ)
      (reference : Reference) (road : RoadMap)
      → IsSingle (AreReasons format spots tolerances nearest reference road)
  reasons_once format spots tolerances nearest reference road = no_fault_once _ (λ one other is again.
      reasons_in _ _ _ _ _ _ is.output_is
      (subst (λ w. IsWhyIn format spots road w other)
      (laws.why road tolerances reference nearest again.why is.why again.is_why is.is_why)
      again.output_is))

  -- ---- the answer

  pub on_map_once : (marks : Bool) (request : Request) (accepted : Accepted) (road : RoadMap)
      → Accepts request (Ok accepted) → IsSoundMap road
      → IsSingle (IsAnswerOn marks request accepted road)
  on_map_once marks (Show text format) accepted road is sound =
      grind (arith, no_fault_once, reference_in)
  on_map_once marks (Candidates text tolerances extras format) accepted road is sound =
      grind (arith, listed_once)
  on_map_once marks (Match asked) accepted road is sound =
      matchings_once marks asked road sound accepted is.1
  on_map_once marks (Places asked) accepted road is sound =
      places_once asked accepted.reference road sound
  on_map_once marks (Why asked) accepted road is sound = grind (arith, reasons_once)

  module _ (nodes lines bans : List ℕ) where
    map_once : IsSingle (IsMapOfFiles (known nodes lines bans))
    map_once (Ok one) (Ok other) is again = ap Ok (laws.map _ _ _ _ _ is again)
    map_once (Ok one) (Err other) is again =
        absurd (laws.no_map_and_fault _ _ _ _ again.0 is (again.1, again.2))
    map_once (Err one) (Ok other) is again =
        absurd (laws.no_map_and_fault _ _ _ _ is.0 again (is.1, is.2))
    map_once (Err one) (Err other) is again =
        let why = laws.map_fault nodes lines bans is.0 again.0 (is.1, is.2) (again.1, again.2) in
        ap Err (is.3 ∙ ap fault_of_map why ∙ sym again.3)

    of_files_once : (request : Request) (accepted : Accepted) → Accepts request (Ok accepted)
        → IsSingle (IsAnswerOf (known nodes lines bans) request accepted)
    of_files_once (Show text format) accepted is =
        no_fault_once _ (reference_in format accepted.reference)
    of_files_once request accepted is = first_then _ (IsAnswerOn true request accepted) map_once
        (λ road its. on_map_once true request accepted road is its.sound)

    pub answer_once : (request : Request) → IsSingle (IsAnswer (known nodes lines bans) request)
    answer_once request = first_then _ (IsAnswerOf (known nodes lines bans) request)
        (accepted_once laws.outcome laws.cursor (text_of request) (cursor_of request)) (of_files_once request)

pub refused_by_name : OneOutcome → RefusedByName
refused_by_name law texts request refused (Ok output) is its =
    no_ok_and_err (law (text_of request) (Ok its.0.reference) (Err refused) its.1.0 is)
refused_by_name law texts request refused (Err fault) is its = elim its [
  | inl here ↦ elim here [
    | inl named ↦ ap Err (named.2
        ∙ ap fault_of (same_err (law (text_of request) (Err named.0) (Err refused) named.1 is)))
    | inr cursor ↦ no_ok_and_err (law (text_of request) (Ok cursor.0) (Err refused) cursor.1 is)
  ]
  | inr later ↦ no_ok_and_err (law (text_of request) (Ok later.0.reference) (Err refused) later.1.0
      is)
]
