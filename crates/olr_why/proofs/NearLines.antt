-- The object of a line near a point, as it is sent.
use Rattle.std.proofs.Common.{◌≡◌, ◌∙◌, ℕ, ap, refl, subst, Option, None, Some}
use Rattle.std.specs.Prelude.{option_map}
use Rattle.serde_json.specs.Data.{Data, object}
use Rattle.olr_base.specs.Coordinates.{Coordinates, coordinates_of}
use Rattle.olr_base.specs.declared.degrees.Degrees.{Degrees}
use Rattle.olr_text.specs.JsonValues.{coordinates_array}
use Rattle.olr_why.specs.Common.{NearLine}
use Rattle.olr_why.specs.Json.{near_members}

-- a spot, as it is sent
abbrev pub spot_value : Option Degrees → Option Data
spot_value spot = option_map (λ (d : Degrees). coordinates_array (coordinates_of d)) spot

spot_array : (spot : Option Degrees)
    → spot_value spot ≡ option_map coordinates_array (option_map coordinates_of spot)
spot_array None = refl
spot_array (Some d) = refl

-- what holds of the object with this line and this spot holds of it with those that they are
pub with_spot : (P : Data → Type 0) (near : NearLine) (line on : ℕ × ℕ × ℕ) (spot : Option Degrees)
    (at : Option Coordinates) → line ≡ on → option_map coordinates_of spot ≡ at
    → P (object (near_members line.0 line.1 line.2 (spot_value spot) near))
    → P (object (near_members on.0 on.1 on.2 (option_map coordinates_array at) near))
with_spot P near line on spot at line_is spot_is sent =
    subst (λ (s : Option Data). P (object (near_members on.0 on.1 on.2 s near)))
    (spot_array spot ∙ ap (option_map coordinates_array) spot_is)
    (subst (λ (l : ℕ × ℕ × ℕ). P (object (near_members l.0 l.1 l.2 (spot_value spot) near)))
    line_is sent)
