-- Why a reference has no matching on a map, or that it has one, by the texts alone: as text, or as
-- JSON where JSON or GeoJSON is asked for.
use Rattle.std.specs.Prelude.{◌≡◌, ℕ, Bool, List, Result}
use Rattle.olr_app.specs.Common.{IsJsonLine, Reference, Tolerances, RoadMap}
use Rattle.olr_why.specs.Json.{why_object}
use Rattle.olr_why.specs.Reasons.{IsWhy, WhyValue}
use Rattle.olr_why.specs.Text.{why_text}
use Rattle.olr_app.specs.Stages.{NoFault}
use Rattle.olr_request.specs.declared.fault.Fault.{Fault}
use Rattle.olr_request.specs.declared.request.Format.{Format}
use Rattle.olr_request.specs.declared.request.Format.TheVariants.{Text}

-- reasons in a format, with the spots of lines or without
abbrev pub IsWhyIn : Format → Bool → RoadMap → WhyValue → List ℕ → Type 0
IsWhyIn Text spots road why text = text ≡ why_text road why
IsWhyIn other spots road why text = IsJsonLine (why_object road spots why) text

-- the reasons of a reference on a map, with so many of the lines nearest to each point, in a format
pub record IsWhyListing (format : Format) (spots : Bool) (tolerances : Tolerances) (nearest : ℕ)
    (reference : Reference) (road : RoadMap) (output : List ℕ)
    : Type 0 where
  pub why : WhyValue
  pub is_why : IsWhy road tolerances reference nearest why
  pub output_is : IsWhyIn format spots road why output

-- the same as a stage, which has no fault
abbrev pub AreReasons : Format → Bool → Tolerances → ℕ → Reference → RoadMap
    → Result (List ℕ) Fault → Type 0
AreReasons format spots tolerances nearest reference road =
    NoFault (IsWhyListing format spots tolerances nearest reference road)
