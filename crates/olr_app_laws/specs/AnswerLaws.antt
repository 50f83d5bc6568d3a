-- Laws on the answer of one of many requests on a map, beside the one that a run for it prints.
use Rattle.std.specs.Prelude.{◌≡◌, ℕ, ⊤, Bool, true, false, List, [], Option, None, Some, Ok, Err}
use Rattle.std.specs.Borrow.{Bor}
use Rattle.olr_app.specs.Common.{Extras, KeyValue, Mark, Reference, RoadMap}
use Rattle.olr_app.specs.Page.{shown_for}
use Rattle.olr_geojson.specs.Collection.{collection_text}
use Rattle.olr_geojson.specs.Feature.{Feature}
use Rattle.olr_detail.specs.GeoJson.{page_members}
use Rattle.olr_detail.specs.Page.{IsSamePageInDetail}
use Rattle.olr_map.specs.Files.{IsMapOf, known}
use Rattle.olr_road.specs.RoadMap.{IsSoundMap}
use Rattle.olr_report.specs.JsonLaws.{IsSamePage}
use Rattle.olr_report.specs.ShownMap.{MapShown}
use Rattle.olr_app.specs.Answer.{IsAnswer, IsAnswerOfMany}
use Rattle.olr_request.specs.Request.{ReadsMap}
use Rattle.olr_app.specs.Stages.{IsSingle}
use Rattle.olr_request.specs.declared.fault.Fault.{Fault}
use Rattle.olr_request.specs.declared.request.Format.{Format}
use Rattle.olr_request.specs.declared.request.Format.TheVariants.{GeoJson, Json, Text}
use Rattle.olr_request.specs.declared.request.Pages.TheVariants.{One}
use Rattle.olr_request.specs.declared.request.Request.{Request}
use Rattle.olr_request.specs.declared.request.Request.TheVariants.{Match}

-- two texts are the JSON of one page, in detail or not, with a mark of its own each, or none
abbrev pub IsSamePageAsAsked :
    Bool → MapShown → Option Mark → Option Mark → List ℕ → List ℕ → Type 0
IsSamePageAsAsked false = IsSamePage
IsSamePageAsAsked true = IsSamePageInDetail

-- two texts are the GeoJSON of the same features, with a mark of its own each, or none
pub record IsSameCollection (mark other : Option Mark) (text again : List ℕ) : Type 0 where
  pub features : List Feature
  pub next : Option KeyValue
  pub text_is : text ≡ collection_text [] features (page_members next mark)
  pub again_is : again ≡ collection_text [] features (page_members next other)

-- Two outputs show the same page in a format, but for the cursor at its end: in the first one it has
-- a mark, in the second one none. Of pages as text nothing is stated, since no question of many texts
-- asks for them.
abbrev pub ShowsSame : Format → Extras → RoadMap → List ℕ → List ℕ → Type 0
ShowsSame Text extras road output page = ⊤
ShowsSame Json extras road output page = (mark : Mark) × (reference : Reference)
    × IsSamePageAsAsked extras.detail (shown_for extras road reference) (Some mark) None output page
ShowsSame GeoJson extras road output page =
    (mark : Mark) × IsSameCollection (Some mark) None output page

-- The output of a run, and that without marks, are the same bytes, but where matchings are asked
-- for: then one page is the same page. Of all pages nothing is stated here, since no question of many
-- texts asks for them.
abbrev pub IsSameOutput : Request → RoadMap → List ℕ → List ℕ → Type 0
IsSameOutput (Match asked) road output answer = (begins : Option (Bor (List ℕ)))
    → asked.pages ≡ One begins → ShowsSame asked.format asked.extras road output answer
IsSameOutput other road output answer = answer ≡ output

-- the answer of one of many requests is such an output of a run on the same files
abbrev pub OutputIsOfRun : Type 0
OutputIsOfRun = (nodes lines bans : List ℕ) (road : RoadMap) (request : Request)
    (output answer : List ℕ) → IsMapOf nodes lines bans road → ReadsMap request
    → IsAnswer (known nodes lines bans) request (Ok output)
    → IsAnswerOfMany road request (Ok answer) → IsSameOutput request road output answer

-- it has a fault exactly where such a run ends with this fault
abbrev pub FaultIsOfRun : Type 0
FaultIsOfRun = (nodes lines bans : List ℕ) (road : RoadMap) (request : Request) (fault : Fault)
    → IsMapOf nodes lines bans road → ReadsMap request
    → (IsAnswer (known nodes lines bans) request (Err fault)
    → IsAnswerOfMany road request (Err fault))
    × (IsAnswerOfMany road request (Err fault)
    → IsAnswer (known nodes lines bans) request (Err fault))

-- it has one answer on a map at most, or one fault in place of it, and not both
abbrev pub OneAnswerOfMany : Type 0
OneAnswerOfMany = (road : RoadMap) (request : Request) → IsSoundMap road
    → IsSingle (IsAnswerOfMany road request)
