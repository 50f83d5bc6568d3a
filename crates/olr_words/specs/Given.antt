-- What the words give to a subcommand, by the texts that they have for its options.
use Rattle.std.specs.Prelude.{◌≡◌, ◌≢◌, ℕ, List, Option, None, Some, Bool, Decides, codes, get_or, option_map}
use Rattle.std.specs.Str.Parse.{digits_value, without_leading_plus}
use Rattle.olr_candidates.specs.Tolerances.{order_of, tolerance_name}
use Rattle.olr_candidates.specs.declared.tolerances.Tolerance.{Tolerance}
use Rattle.olr_likely.specs.declared.asked.PlaceOrder.{PlaceOrder}
use Rattle.olr_likely.specs.declared.asked.PlaceOrder.TheVariants.{Likely, Total}
use Rattle.olr_report.specs.declared.route_part.RoutePart.{RoutePart}
use Rattle.olr_report.specs.declared.route_part.RoutePart.TheVariants.{Inner, Outer, Route}
use Rattle.olr_request.specs.declared.request.Extras.{Extras}
use Rattle.olr_request.specs.declared.request.Format.{Format}
use Rattle.olr_request.specs.declared.request.Format.TheVariants.{GeoJson, Json, Text}
use Rattle.olr_words.specs.BoxText.{IsBoxText, SpellsBox}
use Rattle.olr_words.specs.Options.{IsWholeNumber}
use Rattle.olr_words.specs.declared.box_text.Edges.{Edges}
use Rattle.olr_words.specs.declared.profile.Profile.{Profile}
use Rattle.olr_words.specs.declared.profile.Profile.TheVariants.{Feed, Program}
use Rattle.olr_words.specs.declared.words.Given.{Given}
use Rattle.olr_words.specs.declared.words.GivenNumbers.{GivenNumbers}

-- the number that a text is, if there is a text and it is one
abbrev pub IsNumberOf : Option (List ℕ) → Option ℕ → Type 0
IsNumberOf None number = number ≡ None
IsNumberOf (Some text) (Some number) =
    IsWholeNumber text × (number ≡ digits_value 10 (without_leading_plus text))
IsNumberOf (Some text) None = ¬ (IsWholeNumber text)

-- the edges of the box that a text is, if there is a text and it is one
abbrev pub AreEdgesOf : Option (List ℕ) → Option Edges → Type 0
AreEdgesOf None edges = edges ≡ None
AreEdgesOf (Some text) (Some edges) = SpellsBox text edges
AreEdgesOf (Some text) None = ¬ (IsBoxText text)

-- the profile of a name
abbrev pub IsProfileNamed : Option (List ℕ) → Profile → Type 0
IsProfileNamed name Feed = name ≡ Some (codes "feed")
IsProfileNamed name Program = name ≢ Some (codes "feed")

-- the order of places of a name
abbrev pub IsOrderNamed : Option (List ℕ) → PlaceOrder → Type 0
IsOrderNamed name Likely = name ≡ Some (codes "likely")
IsOrderNamed name Total = name ≢ Some (codes "likely")

-- the part of a route of a name
abbrev pub IsPartNamed : Option (List ℕ) → RoutePart → Type 0
IsPartNamed name Route = name ≡ Some (codes "route")
IsPartNamed name Inner = name ≡ Some (codes "inner")
IsPartNamed name Outer = (name ≢ Some (codes "route")) × (name ≢ Some (codes "inner"))

-- the format of a name
abbrev pub IsFormatNamed : Option (List ℕ) → Format → Type 0
IsFormatNamed name Json = name ≡ Some (codes "json")
IsFormatNamed name GeoJson = name ≡ Some (codes "geojson")
IsFormatNamed name Text = (name ≢ Some (codes "json")) × (name ≢ Some (codes "geojson"))

-- the format of a name in a record, whose answer is never text
abbrev pub IsRecordFormatNamed : Option (List ℕ) → Format → Type 0
IsRecordFormatNamed name Json = name ≢ Some (codes "geojson")
IsRecordFormatNamed name GeoJson = name ≡ Some (codes "geojson")
IsRecordFormatNamed name Text = ⊥

-- the format of the answer to a record, where the same words ask for this one on a command line
abbrev pub record_format : Format → Format
record_format Text = Json
record_format other = other

-- a flag is there: its text is `true`
abbrev pub IsFlagOf : Option (List ℕ) → Bool → Type 0
IsFlagOf text there = Decides there (text ≡ Some (codes "true"))

module _ (text_of : List ℕ → Option (List ℕ)) where
  -- the numbers for places
  pub record AreNumbers (given : GivenNumbers) : Type 0 where
    pub apart : IsNumberOf (text_of (codes "apart")) given.apart
    pub within : IsNumberOf (text_of (codes "within")) given.within
    pub look : IsNumberOf (text_of (codes "look")) given.look
    pub most : IsNumberOf (text_of (codes "most")) given.most

  -- the numbers for tolerances, in their order
  pub record AreTolerancesOf (numbers : List (Option ℕ)) : Type 0 where
    pub each : (name : Tolerance)
        → IsNumberOf (text_of (tolerance_name name)) (get_or numbers (order_of name) None)

  -- what is shown of each candidate, matching or place
  pub record AreExtras (extras : Extras) : Type 0 where
    pub detail : IsFlagOf (text_of (codes "detail")) extras.detail
    pub shape : IsFlagOf (text_of (codes "shape")) extras.shape
    pub part : IsPartNamed (text_of (codes "part")) extras.part

  -- what is given, beside the text of the reference, all pages and the format
  pub record IsGiven (given : Given) : Type 0 where
    pub profile : IsProfileNamed (text_of (codes "profile")) given.profile
    pub tolerances : AreTolerancesOf given.tolerances
    pub page : IsNumberOf (text_of (codes "page")) given.page
    pub numbers : AreNumbers given.numbers
    pub order : IsOrderNamed (text_of (codes "order")) given.order
    pub nearest : IsNumberOf (text_of (codes "nearest")) given.nearest
    pub extras : AreExtras given.extras
    pub edges : AreEdgesOf (text_of (codes "box")) given.edges
    pub at : option_map (λ cursor. cursor.now) given.at ≡ text_of (codes "at")
    pub near : IsNumberOf (text_of (codes "near")) given.near
    pub after : option_map (λ cursor. cursor.now) given.after ≡ text_of (codes "after")
