-- The matching whose legs are shown, and the stages of a request for legs.
use Rattle.olr_app.proofs.Common.{RoadMap, Accepts, ArePages, CursorRead, IsKey, IsStageFault, KeyValue, LayersValue, Accepted, Fault, NoMemory, Page, ◌≡◌, ℕ, List, [], ◌∷◌, ◌++◌, Option, None, Some, Ok, Err, All, All-head, All-nil, All-tail, IfErr, IfOk, Result, inl, inr, refl, sym, values_of, Bor, option_map, subst}
use Rattle.std.proofs.Common.{IfSome, add-one, ◌≤◌, ap, drop, length, ◌+◌, slice_get, suc, zero, ◌∙◌}
use Rattle.std.proofs.lemmas.List.Elements.{All-append}
use Rattle.std.proofs.lemmas.List.{drop_all}
use Rattle.std.proofs.lemmas.Option.{same_Some}
use Rattle.olr_app.proofs.PagesOf.{keys_of_pages}
use Rattle.olr_app.specs.Legs.{AreLegs, AreLegsOnMap, IsLegsFault, as_match, first_of, matching_of}
use Rattle.olr_keys.specs.Headline.{joined}
use Rattle.olr_request.specs.Request.{matching_request}
use Rattle.olr_request.specs.declared.request.LegsRequest.{LegsRequest}

-- ---- the matching

-- the first key of pages
abbrev pub first_in : List Page → Option KeyValue
first_in pages = first_of (joined (values_of pages))

no_key : (keys more : List KeyValue) → None ≡ slice_get keys 0
    → first_of (keys ++ more) ≡ first_of more
no_key [] more none = refl
no_key (key ∷ keys) more none = absurd cc

some_key : (keys more : List KeyValue) (key : KeyValue) → Some key ≡ slice_get keys 0
    → first_of (keys ++ more) ≡ Some key
some_key [] more key some = absurd cc
some_key (one ∷ keys) more key some = sym some

behind_suc : (pages : List Page) (index : ℕ) (page : Page)
    → Some page ≡ slice_get pages index → None ≡ slice_get page.keys.items 0
    → first_in (drop index pages) ≡ first_in (drop (suc index) pages)
behind_suc [] index page is none = absurd cc
behind_suc (first ∷ pages) (suc index) page is none = behind_suc pages index page is none
behind_suc (first ∷ pages) zero page is none =
    ap first_in (ap (λ one. one ∷ pages) (same_Some first page (sym is)))
    ∙ no_key page.keys.items (joined (values_of pages)) none

-- a page without keys is passed over
pub behind_empty : (pages : List Page) (index : ℕ) (page : Page)
    → Some page ≡ slice_get pages index → None ≡ slice_get page.keys.items 0
    → first_in (drop index pages) ≡ first_in (drop (index + 1) pages)
behind_empty pages index page is none = simp add-one (behind_suc pages index page is none)

-- the key of a page that has one
pub here_first : (pages : List Page) (index : ℕ) (page : Page) (key : KeyValue)
    → Some page ≡ slice_get pages index → Some key ≡ slice_get page.keys.items 0
    → first_in (drop index pages) ≡ Some key
here_first [] index page key is some = absurd cc
here_first (first ∷ pages) (suc index) page key is some = here_first pages index page key is some
here_first (first ∷ pages) zero page key is some =
    ap first_in (ap (λ one. one ∷ pages) (same_Some first page (sym is)))
    ∙ some_key page.keys.items (joined (values_of pages)) key some

-- behind all pages there is none
pub none_behind : (pages : List Page) (index : ℕ) → length pages ≤ index
    → first_in (drop index pages) ≡ None
none_behind pages index past = ap first_in (drop_all index pages past)

module _ (P : KeyValue → Type 0) where
  first_is : (keys : List KeyValue) → All P keys → IfSome (first_of keys) P
  first_is [] all = tt
  first_is (key ∷ keys) all = All-head P key keys all

  in_joined : (pages : List Page) → All (λ (page : Page). All P page.keys.items) pages
      → All P (joined (values_of pages))
  in_joined [] all = All-nil P
  in_joined (page ∷ pages) all =
      let OfPage : Page → Type 0 = λ one. All P one.keys.items in
      All-append P page.keys.items (joined (values_of pages)) (All-head OfPage page pages all)
      (in_joined pages (All-tail OfPage page pages all))

  in_middle : (front : List KeyValue) (key : KeyValue) (rest : List KeyValue)
      → All P (front ++ key ∷ rest) → P key
  in_middle [] key rest all = All-head P key rest all
  in_middle (first ∷ front) key rest all =
      in_middle front key rest (All-tail P first (front ++ key ∷ rest) all)

-- it is a matching of the layers, if there is one
pub is_matching : (asked : LegsRequest) (layers : LayersValue) (start : Option CursorRead)
    (pages : List Page) → ArePages (matching_request asked) layers start (Ok (values_of pages))
    → IfSome (matching_of start (values_of pages)) (IsKey layers.penalties)
is_matching asked layers None pages are =
    first_is (IsKey layers.penalties) (joined (values_of pages))
    (in_joined (IsKey layers.penalties) pages
    (keys_of_pages (matching_request asked) layers None pages are))
is_matching asked layers (Some read) pages are =
    let page = are.2.2 in
    in_middle (IsKey layers.penalties) page.is_rest.0 read.key page.rest
    (rw (sym page.is_rest.1) are.1.only)

-- what holds of a key holds of it where it is shown
pub key_shown : (P : KeyValue → Type 0) (shown : Option (Bor KeyValue)) (key : Option KeyValue)
    → option_map (λ (one : Bor KeyValue). one.now) shown ≡ key → IfSome key P
    → IfSome shown (λ (one : Bor KeyValue). P one.now)
key_shown P None key same is = tt
key_shown P (Some one) key same is = subst (λ found. IfSome found P) (sym same) is

-- ---- the request on a map

module _ (asked : LegsRequest) (road : RoadMap) (accepted : Accepted)
    (is : Accepts (as_match asked) (Ok accepted)) where
  -- the output
  pub legs_on_map : {T : Type 0} (bytes : T → List ℕ) (result : Result T Fault)
      → IfOk result (λ output. AreLegs asked road accepted (Ok (bytes output)))
      → IfOk result (λ output. AreLegsOnMap asked road (Ok (bytes output)))
  legs_on_map bytes (Ok output) on = (accepted, is, on)
  legs_on_map bytes (Err why) on = tt

  -- the fault of a stage on the map, or want of memory
  of_stage : (why : Fault) → IsStageFault (AreLegs asked road accepted) why
      → IsLegsFault asked road why
  of_stage NoMemory on = inr (refl, (accepted, is))
  of_stage other on = inl (inr (accepted, is, on))

  pub fault_on_map : {T : Type 0} (result : Result T Fault)
      → IfErr result (IsStageFault (AreLegs asked road accepted))
      → IfErr result (IsLegsFault asked road)
  fault_on_map (Ok output) on = tt
  fault_on_map (Err why) on = of_stage why on

-- the refusal of its own texts
pub refusal_on_map : (asked : LegsRequest) (road : RoadMap) (why : Fault)
    → Accepts (as_match asked) (Err why) → IsLegsFault asked road why
refusal_on_map asked road why is = inl (inl is)
