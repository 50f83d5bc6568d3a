-- The places of a reference on a map, and whether its match is unique, by the texts alone: as text,
-- as JSON or as GeoJSON.
use Rattle.std.specs.Prelude.{◌≡◌, ℕ, List, Option, None, Some, Result, Ok, Err}
use Rattle.olr_app.specs.Common.{Extras, IsJsonLine, Reference, RoadMap, LayersValue}
use Rattle.olr_confidence.specs.declared.confidence.Confidence.{Confidence}
use Rattle.olr_likely.specs.Asking.{AreAsked}
use Rattle.olr_likely.specs.GeoJson.{shown_collection}
use Rattle.olr_likely.specs.Json.{shown_object}
use Rattle.olr_likely.specs.Text.{shown_text}
use Rattle.olr_likely.specs.declared.asked.AskedPlaces.{AskedPlaces}
use Rattle.olr_likely.specs.declared.showing.ShownPlaces.{ShownPlaces}
use Rattle.olr_app.specs.Matching.{AreLayers}
use Rattle.olr_app.specs.Page.{shown_for}
use Rattle.olr_app.specs.Stages.{AndThen, NoFault}
use Rattle.olr_request.specs.declared.confidence_file.ConfidenceFile.{ConfidenceFile}
use Rattle.olr_request.specs.declared.confidence_file.ConfidenceFile.TheVariants.{Bad, Read}
use Rattle.olr_request.specs.declared.fault.Fault.{Fault}
use Rattle.olr_request.specs.declared.fault.Fault.TheVariants.{BadConfidence}
use Rattle.olr_request.specs.declared.request.Format.{Format}
use Rattle.olr_request.specs.declared.request.Format.TheVariants.{GeoJson, Json, Text}
use Rattle.olr_request.specs.declared.request.PlacesRequest.{PlacesRequest}

-- places as they are shown, in a format
abbrev pub IsPlacesIn : Format → Extras → RoadMap → Reference → ShownPlaces → List ℕ → Type 0
IsPlacesIn Text extras road reference shown text = text ≡ shown_text road shown
IsPlacesIn Json extras road reference shown text =
    IsJsonLine (shown_object (shown_for extras road reference) shown) text
IsPlacesIn GeoJson extras road reference shown text =
    text ≡ shown_collection (shown_for extras road reference) reference extras.part shown

-- the confidence of the file that is given for one, if a file is given; or the fault of one that is
-- none
abbrev pub IsConfidenceOf : Option ConfidenceFile → Result (Option Confidence) Fault → Type 0
IsConfidenceOf None found = found ≡ Ok None
IsConfidenceOf (Some (Read confidence)) found = found ≡ Ok (Some confidence)
IsConfidenceOf (Some Bad) found = found ≡ Err BadConfidence

-- how places are asked for by a request, with this confidence
abbrev pub asked_places : PlacesRequest → Option Confidence → AskedPlaces
asked_places asked confidence = record {
  limits = asked.limits;
  order = asked.order;
  detailed = asked.extras.detail;
  confidence = confidence;
}

-- the places of the matchings of these layers that are asked for, in a format
pub record IsPlacesListing (asked : AskedPlaces) (extras : Extras) (format : Format) (road : RoadMap)
    (layers : LayersValue) (output : List ℕ) : Type 0 where
  pub shown : ShownPlaces
  pub are_asked : AreAsked asked road layers shown
  pub output_is : IsPlacesIn format extras road layers.reference shown output

-- the places that a request asks for, with this confidence, as a stage, which has no fault
abbrev pub ArePlacesOn : PlacesRequest → Option Confidence → RoadMap → LayersValue
    → Result (List ℕ) Fault → Type 0
ArePlacesOn asked confidence road layers = NoFault (IsPlacesListing (asked_places asked confidence)
    asked.extras asked.format road layers)

-- those of a reference, or the first point that has too many candidates
abbrev pub ArePlacesWith : PlacesRequest → Reference → RoadMap → Option Confidence
    → Result (List ℕ) Fault → Type 0
ArePlacesWith asked reference road confidence =
    AndThen (AreLayers asked.tolerances reference road) (ArePlacesOn asked confidence road)

-- the same with the confidence of the request; or that the file for it is none
abbrev pub ArePlaces : PlacesRequest → Reference → RoadMap → Result (List ℕ) Fault → Type 0
ArePlaces asked reference road =
    AndThen (IsConfidenceOf asked.confidence) (ArePlacesWith asked reference road)
