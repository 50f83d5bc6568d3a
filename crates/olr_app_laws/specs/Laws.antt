-- The laws of the crates below that the laws of this crate rest on.
use Rattle.std.specs.Prelude.{◌≡◌, ℕ, List}
use Rattle.olr_app.specs.Accepting.{OneOutcome}
use Rattle.olr_app.specs.Common.{RoadMap, MapFault}
use Rattle.olr_candidates.specs.Laws.{NoListsAndTooMany, OneFirstTooMany, OneLists}
use Rattle.olr_detail.specs.Laws.{OneListing, OneMatchingDetail}
use Rattle.olr_fingerprint.specs.Fingerprint.{FingerprintIsMark}
use Rattle.olr_keys.specs.CursorLaws.{OneCursor}
use Rattle.olr_keys.specs.Laws.{KeysAreInRange, NoPageBehindOthers, OneChain, OneList, OnePage}
use Rattle.olr_likely.specs.OneAnswer.{OneGeoJson, OneJson, OneText}
use Rattle.olr_map.specs.Files.{IsFaultOf, IsMapOf}
use Rattle.olr_matching.specs.LayersLaws.{OneLayers}
use Rattle.olr_places_laws.specs.VerdictLaws.{OneLooking}
use Rattle.olr_report.specs.EntryLaws.{OneEntries}
use Rattle.olr_report.specs.JsonLaws.{JsonReadsAsPage}
use Rattle.olr_why.specs.Laws.{OneWhy}

-- three texts have one map at most
abbrev pub OneMap : Type 0
OneMap = (nodes lines bans : List ℕ) (one other : RoadMap)
    → IsMapOf nodes lines bans one → IsMapOf nodes lines bans other → one ≡ other

-- they have one fault at most
abbrev pub OneMapFault : Type 0
OneMapFault = (nodes lines bans : List ℕ) (one other : MapFault)
    → IsFaultOf nodes lines bans one → IsFaultOf nodes lines bans other → one ≡ other

-- and not both
abbrev pub NoMapAndFault : Type 0
NoMapAndFault = (nodes lines bans : List ℕ) (road : RoadMap) (why : MapFault)
    → IsMapOf nodes lines bans road → IsFaultOf nodes lines bans why → ⊥

pub record Laws : Type 0 where
  pub outcome : OneOutcome
  pub map : OneMap
  pub map_fault : OneMapFault
  pub no_map_and_fault : NoMapAndFault
  pub lists : OneLists
  pub first_too_many : OneFirstTooMany
  pub no_lists_and_too_many : NoListsAndTooMany
  pub layers : OneLayers
  pub in_range : KeysAreInRange
  pub list : OneList
  pub page : OnePage
  pub chain : OneChain
  pub no_page_after_others : NoPageBehindOthers
  pub cursor : OneCursor
  pub is_mark : FingerprintIsMark
  pub entries : OneEntries
  pub json_reads : JsonReadsAsPage
  pub listing_detail : OneListing
  pub matching_detail : OneMatchingDetail
  pub looking : OneLooking
  pub places_text : OneText
  pub places_json : OneJson
  pub places_geojson : OneGeoJson
  pub why : OneWhy
