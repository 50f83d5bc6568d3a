-- What pages add to the output.
use Rattle.std.specs.Prelude.{◌≡◌, ℕ, Bool, true, false, List, Option}
use Rattle.std.specs.List.{AllZip, concat}
use Rattle.olr_app.specs.Common.{Extras, KeyValue, LayersValue, Mark, RoadMap}
use Rattle.olr_app.specs.Page.{IsTextOfPage, detailed_features_of, features_of}
use Rattle.olr_geojson.specs.Feature.{Feature, feature_text}
use Rattle.olr_geojson.specs.Joined.{behind_commas}
use Rattle.olr_keys.specs.Page.{PageValue}
use Rattle.olr_detail.specs.MatchingDetail.{AreInDetail, Detailed}
use Rattle.olr_report.specs.Entries.{AreEntriesAt, Entry}
use Rattle.olr_request.specs.declared.request.Format.{Format}
use Rattle.olr_request.specs.declared.request.Format.TheVariants.{GeoJson}

-- the features of these matchings, in detail or not
abbrev pub AreFeatures : Bool → Extras → RoadMap → LayersValue → List Entry → List Feature → Type 0
AreFeatures false extras road layers entries all =
    all ≡ features_of extras road layers.reference entries
AreFeatures true extras road layers entries all = (detailed : List Detailed)
    × AreInDetail layers.tolerances layers.reference road entries detailed
    × (all ≡ detailed_features_of extras road layers.reference detailed)

-- the features of the matchings of these keys, each behind a comma
pub record AreFeaturesOfKeys (extras : Extras) (road : RoadMap) (layers : LayersValue)
    (keys : List KeyValue) (added : List ℕ) : Type 0 where
  pub entries : List Entry
  pub are : AreEntriesAt road layers keys entries
  pub all : List Feature
  pub are_features : AreFeatures extras.detail extras road layers entries all
  pub added_is : added ≡ behind_commas feature_text all

-- what a page adds to the output: its features in GeoJSON, else its text
abbrev pub IsAddedFor : Format → Extras → RoadMap → LayersValue → Option Mark → PageValue → List ℕ
    → Type 0
IsAddedFor GeoJson extras road layers mark page added =
    AreFeaturesOfKeys extras road layers page.keys added
IsAddedFor format extras road layers mark page added =
    IsTextOfPage extras format road layers mark page added

-- what pages add to the output, one after the other
pub record AreAddedFor (extras : Extras) (format : Format) (road : RoadMap) (layers : LayersValue)
    (mark : Option Mark) (pages : List PageValue) (output : List ℕ) : Type 0 where
  pub texts : List (List ℕ)
  pub each : AllZip (IsAddedFor format extras road layers mark) pages texts
  pub whole : output ≡ concat texts
