-- The text of a page of matchings, in a format, with what speaks for each matching or without.
use Rattle.std.specs.Prelude.{◌≡◌, ℕ, Bool, true, false, List, [], Option, map}
use Rattle.olr_app.specs.Common.{Extras, IsJsonLine, KeyValue, Mark, Reference, RoadMap, LayersValue}
use Rattle.olr_geojson.specs.Collection.{collection_text}
use Rattle.olr_geojson.specs.Feature.{Feature}
use Rattle.olr_keys.specs.Page.{PageValue}
use Rattle.olr_report.specs.Entries.{AreEntriesAt, Entry}
use Rattle.olr_report.specs.Json.{page_object}
use Rattle.olr_report.specs.ShownMap.{MapShown, shown_as}
use Rattle.olr_report.specs.Text.{next_after, page_text}
use Rattle.olr_detail.specs.GeoJson.{detailed_feature, entry_feature, page_members}
use Rattle.olr_detail.specs.Json.{page_object as detailed_page}
use Rattle.olr_detail.specs.MatchingDetail.{AreInDetail, Detailed}
use Rattle.olr_detail.specs.Text.{page_text as detailed_page_text}
use Rattle.olr_request.specs.declared.request.Format.{Format}
use Rattle.olr_request.specs.declared.request.Format.TheVariants.{GeoJson, Json, Text}

module _ (extras : Extras) (road : RoadMap) (reference : Reference) where
  -- the map as JSON shows it, with shapes where they are asked for
  abbrev pub shown_for : MapShown
  shown_for = shown_as extras.shape road reference

  -- the features of matchings, and the same with what speaks for each
  abbrev pub features_of : List Entry → List Feature
  features_of entries = map (entry_feature shown_for reference extras.part) entries

  abbrev pub detailed_features_of : List Detailed → List Feature
  detailed_features_of all = map (detailed_feature shown_for reference extras.part) all

  -- the text of a page in a format, by its entries and where the next page begins
  abbrev pub IsPageIn :
      Format → List Entry → Option KeyValue → Option Mark → List ℕ → Type 0
  IsPageIn Text entries next mark text = text ≡ page_text road entries next mark
  IsPageIn Json entries next mark text =
      IsJsonLine (page_object shown_for entries next mark) text
  IsPageIn GeoJson entries next mark text =
      text ≡ collection_text [] (features_of entries) (page_members next mark)

  -- the same with these details of the matchings: what speaks for each is shown with it
  abbrev pub IsPageTextWith :
      Format → List Detailed → Option KeyValue → Option Mark → List ℕ → Type 0
  IsPageTextWith Text all next mark text = text ≡ detailed_page_text road all next mark
  IsPageTextWith Json all next mark text =
      IsJsonLine (detailed_page shown_for all next mark) text
  IsPageTextWith GeoJson all next mark text =
      text ≡ collection_text [] (detailed_features_of all) (page_members next mark)

-- the text of a page of these matchings in detail: with what speaks for each of them
pub record IsPageInDetail (extras : Extras) (format : Format) (road : RoadMap)
    (layers : LayersValue) (entries : List Entry) (next : Option KeyValue) (mark : Option Mark)
    (text : List ℕ) : Type 0 where
  pub all : List Detailed
  pub are : AreInDetail layers.tolerances layers.reference road entries all
  pub text_is : IsPageTextWith extras road layers.reference format all next mark text

-- the text of a page of these matchings, in detail or not
abbrev pub IsPageAsAsked : Bool → Extras → Format → RoadMap → LayersValue → List Entry
    → Option KeyValue → Option Mark → List ℕ → Type 0
IsPageAsAsked false extras format road layers = IsPageIn extras road layers.reference format
IsPageAsAsked true extras format road layers = IsPageInDetail extras format road layers

-- the text of a page: the matchings of its keys, and the mark in the cursor at its end, or no mark
pub record IsTextOfPage (extras : Extras) (format : Format) (road : RoadMap)
    (layers : LayersValue) (mark : Option Mark) (page : PageValue) (text : List ℕ) : Type 0 where
  pub entries : List Entry
  pub are : AreEntriesAt road layers page.keys entries
  pub text_is : IsPageAsAsked extras.detail extras format road layers entries (next_after page)
      mark text
