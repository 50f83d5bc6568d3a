-- What a page adds to the output, by the parts of its matchings: its text, or in GeoJSON the features
-- of its matchings, each behind a comma.
use Rattle.std.specs.Prelude.{ℕ, Bool, true, false, List, [], Option}
use Rattle.olr_app.specs.Common.{Extras, Reference, Tolerances, Mark, RoadMap}
use Rattle.olr_app.specs.Page.{shown_for}
use Rattle.olr_keys.specs.Page.{PageValue}
use Rattle.olr_matching.specs.declared.matched.Matched.{Matched}
use Rattle.olr_report.specs.Json.{IsPageJson}
use Rattle.olr_report.specs.ShownMap.{shown_as}
use Rattle.olr_report.specs.Text.{IsPageText}
use Rattle.olr_detail.specs.GeoJson.{AddsDetailed, AddsEntries}
use Rattle.olr_detail.specs.Page.{IsPageJson as IsDetailedPageJson, IsPageText as IsDetailedPageText}
use Rattle.olr_request.specs.declared.request.Format.{Format}
use Rattle.olr_request.specs.declared.request.Format.TheVariants.{GeoJson, Json, Text}

-- the text of a page whose keys have these parts, in detail or not
abbrev pub IsTextOfParts : Bool → Tolerances → Reference → RoadMap → PageValue → List Matched
    → Option Mark → List ℕ → Type 0
IsTextOfParts false tolerances reference road = IsPageText road reference
IsTextOfParts true tolerances reference road = IsDetailedPageText tolerances reference road

-- its JSON, in detail or not, with shapes or without
abbrev pub IsJsonOfParts : Bool → Bool → Tolerances → Reference → RoadMap → PageValue
    → List Matched → Option Mark → List ℕ → Type 0
IsJsonOfParts false shapes tolerances reference road =
    IsPageJson (shown_as shapes road reference) reference
IsJsonOfParts true shapes tolerances reference road =
    IsDetailedPageJson tolerances reference road shapes

-- the features of its matchings, in detail or not
abbrev pub AreFeaturesOfParts : Bool → Extras → Tolerances → Reference → RoadMap → PageValue
    → List Matched → List ℕ → Type 0
AreFeaturesOfParts false extras tolerances reference road page matched added =
    AddsEntries (shown_for extras road reference) reference extras.part page matched [] added
AreFeaturesOfParts true extras tolerances reference road page matched added =
    AddsDetailed (shown_for extras road reference) reference extras.part tolerances page matched []
    added

-- what is added for it as it is asked for
abbrev pub IsPageOfParts : Format → Extras → Tolerances → Reference → RoadMap → PageValue
    → List Matched → Option Mark → List ℕ → Type 0
IsPageOfParts Text extras tolerances reference road page matched mark added =
    IsTextOfParts extras.detail tolerances reference road page matched mark added
IsPageOfParts Json extras tolerances reference road page matched mark added =
    IsJsonOfParts extras.detail extras.shape tolerances reference road page matched mark added
IsPageOfParts GeoJson extras tolerances reference road page matched mark added =
    AreFeaturesOfParts extras.detail extras tolerances reference road page matched added
