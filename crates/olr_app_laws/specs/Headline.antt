-- The headline, over outputs alone, as text or as JSON. For fixed files of a map, text of a reference
-- and tolerances, take runs of which each begins at the cursor at the end of the output before it,
-- up to the run whose output says that there are no more matchings. What their outputs show,
-- joined, is all matchings, each once, by the total and then by the ranks. Where the first run
-- begins at the cursor of a matching, it is exactly the matchings after it. Where the runs are
-- asked for pages in detail, each matching is shown with what speaks for it. As GeoJSON, all pages are
-- one collection of all matchings.
use Rattle.std.specs.Prelude.{◌≡◌, ℕ, ◌≤◌, List, [], ◌∷◌, ◌++◌, Option, None, Some, length, All, ⊤}
use Rattle.std.specs.Prelude.{Contains, IfSome, Result, Ok, Err}
use Rattle.std.specs.Borrow.{Bor}
use Rattle.olr_app.specs.Common.{Extras, IsOutcome, Refused, Tolerances, IsFingerprint, AreAnswers, KeyValue, CursorRead, Mark, RoadMap, AreLayersOn, LayersValue}
use Rattle.olr_keys.specs.Cursor.{IsCursorOf, cursor_text}
use Rattle.olr_keys.specs.Page.{IsRestAfter}
use Rattle.olr_map.specs.Files.{IsMapOf, Texts, known}
use Rattle.olr_report.specs.Entries.{AreEntriesAt, Entry}
use Rattle.olr_app.specs.Answer.{IsAnswer, IsOutput}
use Rattle.olr_request.specs.Fault.{fault_of}
use Rattle.olr_app_laws.specs.HeadlineOutputs.{ArePartsOf, Joinable, Part, Shows, as_text, format_of}
use Rattle.olr_app.specs.Matching.{IsOfInputs}
use Rattle.olr_app.specs.Page.{IsPageAsAsked}
use Rattle.olr_request.specs.Request.{bytes_of, text_of}
use Rattle.olr_request.specs.declared.fault.Fault.{Fault}
use Rattle.olr_request.specs.declared.request.Format.{Format}
use Rattle.olr_request.specs.declared.request.Format.TheVariants.{GeoJson}
use Rattle.olr_request.specs.declared.request.MatchRequest.{MatchRequest}
use Rattle.olr_request.specs.declared.request.Pages.{Pages}
use Rattle.olr_request.specs.declared.request.Pages.TheVariants.{All as EveryPage, One}
use Rattle.olr_request.specs.declared.request.Request.{Request}
use Rattle.olr_request.specs.declared.request.Request.TheVariants.{Match}

-- ---- the inputs

-- what the runs have in common: the bytes of the three files of a map and of the text of a
-- reference, tolerances, and what is shown of each matching
pub record Inputs : Type 0 where
  pub nodes : List ℕ
  pub lines : List ℕ
  pub bans : List ℕ
  pub text : List ℕ
  pub tolerances : Tolerances
  pub extras : Extras

-- what is known of the files of the map
abbrev pub files_of : Inputs → Texts
files_of inputs = known inputs.nodes inputs.lines inputs.bans

-- What the inputs determine: the map of the files; the layers on it of the reference of the text,
-- with these tolerances; and the keys of all matchings of these layers, by the total and then by
-- the ranks.
pub record Matchings (inputs : Inputs) : Type 0 where
  pub road : RoadMap
  pub layers : LayersValue
  pub keys : List KeyValue
  pub is_map : IsMapOf inputs.nodes inputs.lines inputs.bans road
  pub is_reference : IsOutcome inputs.text (Ok layers.reference)
  pub are_tolerances : layers.tolerances ≡ inputs.tolerances
  pub are_layers : AreLayersOn road layers
  pub are_keys : AreAnswers layers.penalties keys

-- the same map, layers and keys
pub record AreSame {inputs : Inputs} (a b : Matchings inputs) : Type 0 where
  pub road : a.road ≡ b.road
  pub layers : a.layers ≡ b.layers
  pub keys : a.keys ≡ b.keys

-- The inputs determine one map, one value of layers and one list of keys at most.
abbrev pub OneMatchings : Type 0
OneMatchings = (inputs : Inputs) (a b : Matchings inputs) → AreSame a b

-- ---- runs

-- a run: what was asked for, the bytes that were written, and what they show of the matchings
pub record Run (format : Joinable) : Type 0 where
  pub request : Request
  pub output : List ℕ
  pub shown : List (Part format)

-- a request for matchings of these inputs
abbrev pub request_of : Inputs → Bor (List ℕ) → ℕ → Pages → Format → MatchRequest
request_of inputs text size pages format =
    record {
      text = text;
      tolerances = inputs.tolerances;
      size = size;
      pages = pages;
      extras = inputs.extras;
      format = format;
    }

-- The request asks for one page of the matchings of these inputs, of some size: the page after the
-- matching that this cursor names, or without a cursor the first page.
pub record Asks (format : Format) (inputs : Inputs) (cursor : Option (List ℕ)) (request : Request)
    : Type 0 where
  pub text : Bor (List ℕ)
  pub size : ℕ
  pub begins : Option (Bor (List ℕ))
  pub request_is : request ≡ Match (request_of inputs text size (One begins) format)
  pub text_is : text.now ≡ inputs.text
  pub at_least : 1 ≤ size
  pub cursor_is : bytes_of begins ≡ cursor

-- what a run wrote is the output for such a request, as `run` promises it
pub record IsRunAt {format : Joinable} (inputs : Inputs) (cursor : Option (List ℕ))
    (run : Run format) : Type 0 where
  pub asks : Asks (format_of format) inputs cursor run.request
  pub writes : IsOutput (files_of inputs) run.request run.output

-- The first run begins at this cursor, or without one at the start. Each other run begins at the
-- cursor at the end of the output before it. The last output says that there are no more matchings.
abbrev pub FollowEachOther :
    {format : Joinable} → Inputs → Option (List ℕ) → List (Run format) → Type 0
FollowEachOther {format} inputs cursor [] = ⊥
FollowEachOther {format} inputs cursor (run ∷ []) =
    IsRunAt inputs cursor run × Shows format run.shown None run.output
FollowEachOther {format} inputs cursor (run ∷ next ∷ runs) = (following : List ℕ)
    × IsRunAt inputs cursor run × Shows format run.shown (Some following) run.output
    × FollowEachOther inputs (Some following) (next ∷ runs)

-- what the outputs show, one after the other
abbrev pub joined : {format : Joinable} → List (Run format) → List (Part format)
joined {format} [] = []
joined {format} (run ∷ runs) = run.shown ++ joined runs

-- ---- what shows matchings

-- the key of the matching that a cursor names; without a cursor there is none
abbrev pub Names : Option (List ℕ) → Option KeyValue → Type 0
Names None key = key ≡ None
Names (Some cursor) key =
    (read : CursorRead) × (key ≡ Some read.key) × IsCursorOf read.key read.mark cursor

-- the parts that show the matchings of these keys, in order: of each its key, its parts, its joined
-- route and the location on it, and in detail what speaks for it
pub record AreShown (extras : Extras) (format : Joinable) (road : RoadMap) (layers : LayersValue)
    (keys : List KeyValue) (parts : List (Part format)) : Type 0 where
  pub entries : List Entry
  pub are : AreEntriesAt road layers keys entries
  pub parts_are : ArePartsOf extras.detail extras format road layers entries parts

-- the parts that show exactly the matchings of the inputs that come after the one that a cursor
-- names; without a cursor, all
pub record AreShownAfter (format : Joinable) (inputs : Inputs) (cursor : Option (List ℕ))
    (parts : List (Part format)) : Type 0 where
  pub all : Matchings inputs
  pub named : Option KeyValue
  pub names : Names cursor named
  pub rest : List KeyValue
  pub is_rest : IsRestAfter all.keys named rest
  pub shown : AreShown inputs.extras format all.road all.layers rest parts

-- ---- the headline

-- Runs that follow each other show exactly the matchings after the cursor at which the first run
-- begins, or all matchings.
abbrev pub Headline : Type 0
Headline = (format : Joinable) (inputs : Inputs) (cursor : Option (List ℕ))
    (runs : List (Run format)) → FollowEachOther inputs cursor runs
    → AreShownAfter format inputs cursor (joined runs)

-- Every page size gives the same bytes: two such chains of runs that begin at the same cursor write
-- the same rows, their last rows aside.
abbrev pub SizesAgree : Type 0
SizesAgree = (inputs : Inputs) (cursor : Option (List ℕ)) (runs others : List (Run as_text))
    → FollowEachOther inputs cursor runs → FollowEachOther inputs cursor others
    → joined runs ≡ joined others

-- ---- cursors

-- a cursor of a matching of the inputs, without a mark or with that of the inputs; or no cursor
abbrev pub IsCursorHere : (inputs : Inputs) → Matchings inputs → Option (List ℕ) → Type 0
IsCursorHere inputs all None = ⊤
IsCursorHere inputs all (Some cursor) = (read : CursorRead)
    × IsCursorOf read.key read.mark cursor × Contains all.keys read.key
    × IsOfInputs inputs.text inputs.tolerances all.road read

-- each matching has such a cursor without a mark, and such a cursor with the mark of the inputs
abbrev pub EachHasCursor : Type 0
EachHasCursor = (inputs : Inputs) (all : Matchings inputs) (key : KeyValue) (mark : Option Mark)
    → Contains all.keys key
    → IfSome mark (IsFingerprint inputs.text inputs.tolerances all.road)
    → IsCursorHere inputs all (Some (cursor_text key mark))

-- the cursor at the end of an output is such a cursor
abbrev pub GoesOnHere : Type 0
GoesOnHere = (format : Joinable) (inputs : Inputs) (all : Matchings inputs)
    (cursor : Option (List ℕ)) (run : Run format) (following : List ℕ)
    → IsRunAt inputs cursor run → Shows format run.shown (Some following) run.output
    → IsCursorHere inputs all (Some following)

-- No fault is the answer to a request for a page at such a cursor. So a run that begins there ends
-- without an output only for want of memory or for a device that failed.
abbrev pub NoneRefused : Type 0
NoneRefused = (format : Format) (inputs : Inputs) (all : Matchings inputs)
    (cursor : Option (List ℕ)) (request : Request) (fault : Fault)
    → IsCursorHere inputs all cursor → Asks format inputs cursor request
    → IsAnswer (files_of inputs) request (Err fault) → ⊥

-- Each run begins at the cursor at the end of the output before it, and each output says that more
-- matchings follow.
abbrev pub GoOn : {format : Joinable} → Inputs → Option (List ℕ) → List (Run format) → Type 0
GoOn {format} inputs cursor [] = ⊤
GoOn {format} inputs cursor (run ∷ runs) = (following : List ℕ)
    × IsRunAt inputs cursor run × Shows format run.shown (Some following) run.output
    × GoOn inputs (Some following) runs

-- Such runs come to an end: there are no more of them than matchings.
abbrev pub RunsEnd : Type 0
RunsEnd = (format : Joinable) (inputs : Inputs) (all : Matchings inputs)
    (cursor : Option (List ℕ)) (runs : List (Run format))
    → GoOn inputs cursor runs → length runs ≤ length all.keys

-- ---- all pages

-- the request asks for all pages of the matchings of these inputs, each of this size
pub record AsksAll (format : Format) (inputs : Inputs) (size : ℕ) (request : Request) : Type 0 where
  pub text : Bor (List ℕ)
  pub request_is : request ≡ Match (request_of inputs text size EveryPage format)
  pub text_is : text.now ≡ inputs.text
  pub at_least : 1 ≤ size

-- the request asks for pages of this size
abbrev pub HasSize : ℕ → Request → Type 0
HasSize size (Match asked) = asked.size ≡ size
HasSize size other = ⊥

-- the outputs, one after the other
abbrev pub joined_outputs : {format : Joinable} → List (Run format) → List ℕ
joined_outputs {format} [] = []
joined_outputs {format} (run ∷ runs) = run.output ++ joined_outputs runs

-- the outputs of runs that follow each other from the start, each with a page of this size
pub record IsOfRuns (format : Joinable) (inputs : Inputs) (size : ℕ) (output : List ℕ) : Type 0 where
  pub runs : List (Run format)
  pub follow : FollowEachOther inputs None runs
  pub sizes : All (λ (run : Run format). HasSize size run.request) runs
  pub whole : output ≡ joined_outputs runs

-- The output for all pages is what such runs write, one after the other.
abbrev pub AllPages : Type 0
AllPages = (format : Joinable) (inputs : Inputs) (size : ℕ) (request : Request) (output : List ℕ)
    → AsksAll (format_of format) inputs size request → IsOutput (files_of inputs) request output
    → IsOfRuns format inputs size output

-- a collection of GeoJSON of all matchings of the inputs, each once, by the total and then by the
-- ranks, after which none follow
pub record IsCollectionOfAll (inputs : Inputs) (output : List ℕ) : Type 0 where
  pub all : Matchings inputs
  pub entries : List Entry
  pub are : AreEntriesAt all.road all.layers all.keys entries
  pub output_is : IsPageAsAsked inputs.extras.detail inputs.extras GeoJson all.road all.layers
      entries None None output

-- As GeoJSON the output for all pages is such a collection, whatever the size of a page.
abbrev pub AllAsOne : Type 0
AllAsOne = (inputs : Inputs) (size : ℕ) (request : Request) (output : List ℕ)
    → AsksAll GeoJson inputs size request → IsOutput (files_of inputs) request output
    → IsCollectionOfAll inputs output

-- ---- texts that are no references

-- A text that is no reference is refused by its name: that of its refusal. This is the only answer
-- to each request, whatever the files of the map are.
abbrev pub RefusedByName : Type 0
RefusedByName = (texts : Texts) (request : Request) (refused : Refused)
    (answer : Result (List ℕ) Fault) → IsOutcome (text_of request) (Err refused)
    → IsAnswer texts request answer → answer ≡ Err (fault_of refused)
