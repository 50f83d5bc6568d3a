-- The answer of a request for matchings on a map, by the texts alone: stage by stage, in the order
-- in which the stages may end it with a fault.
use Rattle.std.specs.Prelude.{◌≡◌, ℕ, Bool, true, false, List, [], ◌∷◌, map, Option, None, Some, IfSome}
use Rattle.std.specs.Prelude.{Contains, option_map, Result, Ok, Err}
use Rattle.std.specs.List.{AllZip, concat}
use Rattle.olr_app.specs.Common.{Extras, Reference, Tolerances, IsFingerprint, AreAnswers, KeyValue, CursorRead, Mark, RoadMap, LayersValue, AreLayersOn}
use Rattle.olr_keys.specs.Headline.{AreAllPages, joined}
use Rattle.olr_keys.specs.Matching.{IsKey}
use Rattle.olr_keys.specs.Page.{PageValue, IsPageAfter, page_of}
use Rattle.olr_keys.specs.declared.pages.Page.{Page}
use Rattle.olr_report.specs.Entries.{AreEntriesAt, Entry}
use Rattle.olr_report.specs.Text.{next_after}
use Rattle.olr_app.specs.Page.{IsPageAsAsked, IsTextOfPage}
use Rattle.olr_app.specs.Stages.{AndThen, NoFault, OrTooMany}
use Rattle.olr_app.specs.declared.accepting.Accepted.{Accepted}
use Rattle.olr_request.specs.declared.fault.Fault.{Fault}
use Rattle.olr_request.specs.declared.fault.Fault.TheVariants.{CursorNotHere, CursorOfOther}
use Rattle.olr_request.specs.declared.request.Format.{Format}
use Rattle.olr_request.specs.declared.request.Format.TheVariants.{GeoJson}
use Rattle.olr_request.specs.declared.request.MatchRequest.{MatchRequest}
use Rattle.olr_request.specs.declared.request.Pages.{Pages}
use Rattle.olr_request.specs.declared.request.Pages.TheVariants.{All, One}

-- ---- the cursor

-- a cursor that has a mark has that of these inputs
abbrev pub IsOfInputs : List ℕ → Tolerances → RoadMap → CursorRead → Type 0
IsOfInputs text tolerances road read = IfSome read.mark (IsFingerprint text tolerances road)

-- the start again, where it is of the request's inputs; or the fault of a cursor that isn't
abbrev pub IsStartHere :
    MatchRequest → RoadMap → Option CursorRead → Result (Option CursorRead) Fault → Type 0
IsStartHere asked road start (Ok here) =
    (here ≡ start) × IfSome start (IsOfInputs asked.text.now asked.tolerances road)
IsStartHere asked road start (Err fault) = (fault ≡ CursorOfOther)
    × (read : CursorRead) × (start ≡ Some read)
    × ¬ (IsOfInputs asked.text.now asked.tolerances road read)

-- ---- layers and pages

-- the layers of a reference on a map, or the first point that has more than 64 candidates
abbrev pub AreLayers : Tolerances → Reference → RoadMap → Result LayersValue Fault → Type 0
AreLayers tolerances reference road = OrTooMany tolerances reference road (λ (layers : LayersValue).
    AreLayersOn road layers × (layers.reference ≡ reference) × (layers.tolerances ≡ tolerances))

-- the key of the matching after which the pages begin
abbrev pub key_of : Option CursorRead → Option KeyValue
key_of start = option_map (λ (read : CursorRead). read.key) start

-- the pages of the answers that are asked for: all, or the one after a key
abbrev pub ArePagesAsked :
    List KeyValue → ℕ → Pages → Option KeyValue → List PageValue → Type 0
ArePagesAsked answers size All after list = AreAllPages answers None size list
ArePagesAsked answers size (One cursor) after list =
    (page : PageValue) × (list ≡ page ∷ []) × IsPageAfter answers after size page

-- the pages, or the fault of a key that isn't that of a matching
abbrev pub ArePages :
    MatchRequest → LayersValue → Option CursorRead → Result (List PageValue) Fault → Type 0
ArePages asked layers start (Ok list) = (answers : List KeyValue)
    × AreAnswers layers.penalties answers
    × ArePagesAsked answers asked.size asked.pages (key_of start) list
ArePages asked layers start (Err fault) = (fault ≡ CursorNotHere)
    × (read : CursorRead) × (start ≡ Some read) × ¬ (IsKey layers.penalties read.key)

-- ---- the text

-- the keys of pages, and whether more follow each
abbrev pub values_of : List Page → List PageValue
values_of pages = map page_of pages

-- where the pages go on: where the last of them says
abbrev pub next_behind : List PageValue → Option KeyValue
next_behind [] = None
next_behind (page ∷ []) = next_after page
next_behind (page ∷ next ∷ pages) = next_behind (next ∷ pages)

-- the texts of pages one after the other
pub record AreTextsOfPages (extras : Extras) (format : Format) (road : RoadMap)
    (layers : LayersValue) (mark : Option Mark) (pages : List PageValue) (output : List ℕ)
    : Type 0 where
  pub texts : List (List ℕ)
  pub each : AllZip (IsTextOfPage extras format road layers mark) pages texts
  pub whole : output ≡ concat texts

-- the matchings of pages as one collection of GeoJSON, which goes on where the last page does
pub record IsCollectionOfPages (extras : Extras) (road : RoadMap) (layers : LayersValue)
    (mark : Option Mark) (pages : List PageValue) (output : List ℕ) : Type 0 where
  pub entries : List Entry
  pub are : AreEntriesAt road layers (joined pages) entries
  pub text_is : IsPageAsAsked extras.detail extras GeoJson road layers entries
      (next_behind pages) mark output

-- the text of pages in a format: one collection in GeoJSON, else their texts
abbrev pub ArePagesIn : Format → Extras → RoadMap → LayersValue → Option Mark → List PageValue
    → List ℕ → Type 0
ArePagesIn GeoJson extras road layers = IsCollectionOfPages extras road layers
ArePagesIn format extras road layers = AreTextsOfPages extras format road layers

-- The mark in the cursors at the ends of these pages. With marks it is the fingerprint of the
-- inputs, where a page has more; without marks there is none.
abbrev pub IsMarkOf :
    Bool → List ℕ → Tolerances → RoadMap → List PageValue → Option Mark → Type 0
IsMarkOf true text tolerances road pages mark = (its : Mark) × (mark ≡ Some its)
    × ((page : PageValue) → Contains pages page → page.more ≡ true
    → IsFingerprint text tolerances road its)
IsMarkOf false text tolerances road pages mark = mark ≡ None

-- the output: the text of the pages, with such a mark
pub record IsPagesText (extras : Extras) (format : Format) (road : RoadMap) (layers : LayersValue)
    (IsMark : Option Mark → Type 0) (pages : List PageValue) (output : List ℕ) : Type 0 where
  pub mark : Option Mark
  pub is_mark : IsMark mark
  pub text_is : ArePagesIn format extras road layers mark pages output

-- the same as a stage, which has no fault
abbrev pub IsPrinted :
    Bool → MatchRequest → RoadMap → LayersValue → List PageValue → Result (List ℕ) Fault → Type 0
IsPrinted marks asked road layers pages = NoFault (IsPagesText asked.extras asked.format road layers
    (IsMarkOf marks asked.text.now asked.tolerances road pages) pages)

-- ---- all stages after the map, with marks or without

-- the stages after the layers
abbrev pub OnLayers : Bool → MatchRequest → Option CursorRead → RoadMap → LayersValue
    → Result (List ℕ) Fault → Type 0
OnLayers marks asked start road layers =
    AndThen (ArePages asked layers start) (IsPrinted marks asked road layers)

-- the stages after the cursor is found to be of the inputs
abbrev pub OnStart : Bool → MatchRequest → Reference → RoadMap → Option CursorRead
    → Result (List ℕ) Fault → Type 0
OnStart marks asked reference road start =
    AndThen (AreLayers asked.tolerances reference road) (OnLayers marks asked start road)

-- the output of a request for matchings on a map, or the fault of the first stage that has one
abbrev pub AreMatchings :
    Bool → MatchRequest → Accepted → RoadMap → Result (List ℕ) Fault → Type 0
AreMatchings marks asked accepted road = AndThen (IsStartHere asked road accepted.start)
    (OnStart marks asked accepted.reference road)
