-- The legs of a matching and what else could be driven for each, as a request asks for them: stage by
-- stage, in the order in which the stages may end it with a fault.
use Rattle.std.specs.Prelude.{◌≡◌, ◌⊎◌, ℕ, List, [], ◌∷◌, Option, None, Some, Result, Err}
use Rattle.olr_app.specs.Accepting.{Accepts, IsAccepted}
use Rattle.olr_app.specs.Common.{CursorRead, IsJsonLine, KeyValue, LayersValue, Reference, RoadMap}
use Rattle.olr_app.specs.Matching.{AreLayers, ArePages, IsStartHere}
use Rattle.olr_app.specs.Stages.{AndThen, NoFault}
use Rattle.olr_app.specs.declared.accepting.Accepted.{Accepted}
use Rattle.olr_geojson.specs.Collection.{collection_text}
use Rattle.olr_keys.specs.Headline.{joined}
use Rattle.olr_keys.specs.Page.{PageValue}
use Rattle.olr_legs.specs.GeoJson.{collection_members, features_of_legs}
use Rattle.olr_legs.specs.Json.{legs_object}
use Rattle.olr_legs.specs.Legs.{AreAlternativesOf}
use Rattle.olr_legs.specs.declared.legs.LegAlternatives.{LegAlternatives}
use Rattle.olr_matching.specs.Matched.{IsMatchedBy}
use Rattle.olr_matching.specs.declared.matched.Matched.{Matched}
use Rattle.olr_request.specs.Request.{matching_request}
use Rattle.olr_request.specs.declared.fault.Fault.{Fault}
use Rattle.olr_request.specs.declared.fault.Fault.TheVariants.{NoMemory}
use Rattle.olr_request.specs.declared.request.Format.{Format}
use Rattle.olr_request.specs.declared.request.Format.TheVariants.{GeoJson}
use Rattle.olr_request.specs.declared.request.LegsRequest.{LegsRequest}
use Rattle.olr_request.specs.declared.request.Request.{Request}
use Rattle.olr_request.specs.declared.request.Request.TheVariants.{Match}

-- the first of a list, if it has one
abbrev pub first_of : List KeyValue → Option KeyValue
first_of [] = None
first_of (key ∷ keys) = Some key

-- The matching whose legs are shown: the one that the cursor names, or else the first one, which is
-- that of the first page of one.
abbrev pub matching_of : Option CursorRead → List PageValue → Option KeyValue
matching_of (Some read) pages = Some read.key
matching_of None pages = first_of (joined pages)

-- legs in a format, with the key of their matching: as GeoJSON, or else as JSON
abbrev pub AreLegsIn : Format → RoadMap → Option KeyValue → List LegAlternatives → List ℕ → Type 0
AreLegsIn GeoJson road key legs text =
    text ≡ collection_text [] (features_of_legs road 1 legs) (collection_members key)
AreLegsIn other road key legs text = IsJsonLine (legs_object road key legs) text

-- the legs of the matching of a key; none where there is no matching
abbrev pub AreLegsOf : RoadMap → LayersValue → ℕ → Option KeyValue → List LegAlternatives → Type 0
AreLegsOf road layers near None legs = legs ≡ []
AreLegsOf road layers near (Some key) legs = (matched : Matched) × IsMatchedBy road layers key matched
    × AreAlternativesOf road layers matched near legs

-- the output for this matching
pub record AreLegsShown (asked : LegsRequest) (road : RoadMap) (layers : LayersValue)
    (key : Option KeyValue) (output : List ℕ) : Type 0 where
  pub legs : List LegAlternatives
  pub are : AreLegsOf road layers asked.near key legs
  pub printed : AreLegsIn asked.format road key legs output

-- ---- all stages after the map

-- the request for the page of one matching whose stages these are
abbrev pub as_match : LegsRequest → Request
as_match asked = Match (matching_request asked)

-- the stages after the layers
abbrev pub AreLegsOnLayers : LegsRequest → RoadMap → Option CursorRead → LayersValue
    → Result (List ℕ) Fault → Type 0
AreLegsOnLayers asked road start layers = AndThen (ArePages (matching_request asked) layers start)
    (λ (pages : List PageValue).
    NoFault (AreLegsShown asked road layers (matching_of start pages)))

-- the stages after the cursor is found to be of the inputs
abbrev pub AreLegsOnStart : LegsRequest → RoadMap → Reference → Option CursorRead
    → Result (List ℕ) Fault → Type 0
AreLegsOnStart asked road reference start = AndThen (AreLayers asked.tolerances reference road)
    (AreLegsOnLayers asked road start)

-- the output of a request that is accepted, on a map, or the fault of the first stage that has one
abbrev pub AreLegs : LegsRequest → RoadMap → Accepted → Result (List ℕ) Fault → Type 0
AreLegs asked road accepted =
    AndThen (IsStartHere (matching_request asked) road accepted.start)
    (AreLegsOnStart asked road accepted.reference)

-- The answer of a request on a map: the bytes of its output, or the fault of the first stage that has
-- one, which is the refusal of its own texts or that of a stage on the map.
abbrev pub AreLegsOnMap : LegsRequest → RoadMap → Result (List ℕ) Fault → Type 0
AreLegsOnMap asked road = AndThen (Accepts (as_match asked)) (AreLegs asked road)

-- The fault that comes in place of that answer: the one of the texts; or memory was refused, which
-- befalls a request that is accepted alone.
abbrev pub IsLegsFault : LegsRequest → RoadMap → Fault → Type 0
IsLegsFault asked road fault = AreLegsOnMap asked road (Err fault)
    ⊎ ((fault ≡ NoMemory) × IsAccepted (as_match asked))
