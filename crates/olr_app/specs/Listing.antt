-- The candidates of a reference's points. As text: for each point a row with their number, and then
-- a row for each of them. As JSON: an object with an array of the candidates of each point. As
-- GeoJSON: a collection of the candidates of all points. In detail with what speaks for each.
use Rattle.std.specs.Prelude.{◌≡◌, ℕ, Bool, true, false, List, [], ◌++◌, length, codes, decimal}
use Rattle.std.specs.Prelude.{Result}
use Rattle.serde_json.specs.Data.{Data, member, no_members, object}
use Rattle.olr_app.specs.Common.{Extras, IsJsonLine, Reference, Tolerances, RoadMap}
use Rattle.olr_app.specs.Page.{shown_for}
use Rattle.olr_geojson.specs.Collection.{collection_text}
use Rattle.olr_geojson.specs.Feature.{Feature}
use Rattle.olr_text.specs.JsonValues.{array_of}
use Rattle.olr_text.specs.Texts.{texts_from}
use Rattle.olr_candidates.specs.Points.{AreLists}
use Rattle.olr_candidates.specs.declared.candidate.Candidate.{Candidate}
use Rattle.olr_report.specs.Common.{id_at}
use Rattle.olr_report.specs.Json.{candidate_object}
use Rattle.olr_report.specs.ShownMap.{MapShown}
use Rattle.olr_detail.specs.GeoJson.{candidate_feature, candidate_in_detail, listing_features, typed}
use Rattle.olr_detail.specs.Json.{listing_object as detailed_listing}
use Rattle.olr_detail.specs.Listing.{AreListsInDetail}
use Rattle.olr_detail.specs.Text.{listing_text as detailed_listing_text}
use Rattle.olr_detail.specs.declared.candidate_detail.CandidateDetail.{CandidateDetail}
use Rattle.olr_app.specs.Stages.{OrTooMany}
use Rattle.olr_request.specs.declared.fault.Fault.{Fault}
use Rattle.olr_request.specs.declared.request.Format.{Format}
use Rattle.olr_request.specs.declared.request.Format.TheVariants.{GeoJson, Json, Text}

-- ---- text

-- the row of a candidate of this rank: the id of its line, its place in decimetres from the line's
-- start, and its penalty
abbrev pub candidate_row : RoadMap → ℕ → Candidate → List ℕ
candidate_row road number candidate =
    decimal number ++ codes " line " ++ decimal (id_at road candidate.place.line) ++ codes " at "
    ++ decimal candidate.place.at ++ codes " penalty " ++ decimal candidate.penalty ++ codes "\n"

-- the text of the point of this number: how many candidates it has, and their rows; ranks are
-- counted from 1
abbrev pub point_listing : RoadMap → ℕ → List Candidate → List ℕ
point_listing road number candidates =
    codes "point " ++ decimal number ++ codes " candidates " ++ decimal (length candidates)
    ++ codes "\n" ++ texts_from (candidate_row road) 1 candidates

-- ---- JSON

-- the candidates of a point, by rank
abbrev pub candidates_array : MapShown → List Candidate → Data
candidates_array on candidates = array_of (candidate_object on) candidates

-- the candidates of all points, point by point
abbrev pub listing_object : MapShown → List (List Candidate) → Data
listing_object on lists =
    object (member (codes "points") (array_of (candidates_array on) lists) no_members)

-- ---- GeoJSON

-- a collection of candidates alone
abbrev pub candidates_text : List Feature → List ℕ
candidates_text features = collection_text [] features (typed no_members)

-- ---- each format

-- the text of the candidates of all points, which are counted from 1, in a format
abbrev pub IsListingIn : Format → MapShown → List (List Candidate) → List ℕ → Type 0
IsListingIn Text on lists text = text ≡ texts_from (point_listing on.road) 1 lists
IsListingIn Json on lists text = IsJsonLine (listing_object on lists) text
IsListingIn GeoJson on lists text =
    text ≡ candidates_text (listing_features (candidate_feature on) 1 lists)

-- the same with these details of the candidates: what speaks for each is shown with it
abbrev pub IsListingTextWith : Format → MapShown → List (List CandidateDetail) → List ℕ → Type 0
IsListingTextWith Text on details text = text ≡ detailed_listing_text on.road details
IsListingTextWith Json on details text = IsJsonLine (detailed_listing on details) text
IsListingTextWith GeoJson on details text =
    text ≡ candidates_text (listing_features (candidate_in_detail on) 1 details)

-- ---- in detail or not

-- the text of these candidates in detail: with what speaks for each of them
pub record IsListingInDetail (format : Format) (tolerances : Tolerances) (reference : Reference)
    (on : MapShown) (lists : List (List Candidate)) (text : List ℕ) : Type 0 where
  pub details : List (List CandidateDetail)
  pub are : AreListsInDetail tolerances reference on.road.lines lists details
  pub text_is : IsListingTextWith format on details text

-- the text of these candidates, in detail or not
abbrev pub IsListingAsAsked : Bool → Format → Tolerances → Reference → MapShown
    → List (List Candidate) → List ℕ → Type 0
IsListingAsAsked false format tolerances reference on = IsListingIn format on
IsListingAsAsked true format tolerances reference on =
    IsListingInDetail format tolerances reference on

-- the text of the candidates of a reference's points in a format
pub record IsListing (extras : Extras) (format : Format) (tolerances : Tolerances)
    (reference : Reference) (road : RoadMap) (text : List ℕ) : Type 0 where
  pub lists : List (List Candidate)
  pub candidates : AreLists tolerances reference road.lines lists
  pub text_is : IsListingAsAsked extras.detail format tolerances reference
      (shown_for extras road reference) lists text

-- the same as a stage: that text, or the fault of the first point that has more than 64 candidates
abbrev pub IsListed : Extras → Format → Tolerances → Reference → RoadMap → Result (List ℕ) Fault
    → Type 0
IsListed extras format tolerances reference road =
    OrTooMany tolerances reference road (IsListing extras format tolerances reference road)
