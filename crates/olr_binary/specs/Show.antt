-- The text that `show` prints of a reference: a line for its kind, one for each point, and one for
-- each further field.
use Rattle.std.specs.Prelude.{ℕ, List, [], ◌++◌, length, Option, Some, None, codes, decimal}
use Rattle.std.specs.Fmt.{signed_decimal}
use Rattle.olr_text.specs.Texts.{text_or, texts_from}
use Rattle.olr_binary.specs.declared.point.Point.{Point}
use Rattle.olr_binary.specs.declared.point.Next.{Next}
use Rattle.olr_binary.specs.declared.reference.Reference.{Reference}
use Rattle.olr_binary.specs.declared.reference.Reference.TheVariants.{Line, PointAlong}

-- the attributes of the path to the next point; nothing at the last point
abbrev pub next_text : Option Next → List ℕ
next_text None = []
next_text (Some next) = codes " lowest " ++ decimal next.lowest ++ codes " interval "
    ++ decimal next.interval

-- the line of a point, with its number and its coordinates in microdegrees
abbrev pub point_text : ℕ → Point → List ℕ
point_text number point = decimal number ++ codes " " ++ signed_decimal point.at.lon ++ codes " "
    ++ signed_decimal point.at.lat
    ++ codes " class " ++ decimal point.class ++ codes " form " ++ decimal point.form
    ++ codes " sector " ++ decimal point.sector
    ++ next_text point.next ++ codes "\n"

-- an offset in shares of 1/256
abbrev pub offset_text : Option ℕ → List ℕ
offset_text = text_or decimal (codes "none")

-- the text of a line; points are numbered from 1
abbrev pub line_text : List Point → Option ℕ → Option ℕ → List ℕ
line_text points positive negative =
    codes "line " ++ decimal (length points) ++ codes " points\n" ++ texts_from point_text 1 points
    ++ codes "positive " ++ offset_text positive ++ codes "\n" ++ codes "negative "
    ++ offset_text negative ++ codes "\n"

-- the text of a point along a line
abbrev pub point_along_text : List Point → ℕ → ℕ → Option ℕ → List ℕ
point_along_text points orientation side positive =
    codes "point-along-line " ++ decimal (length points) ++ codes " points\n"
    ++ texts_from point_text 1 points ++ codes "orientation " ++ decimal orientation ++ codes "\n"
    ++ codes "side " ++ decimal side ++ codes "\n"
    ++ codes "positive " ++ offset_text positive ++ codes "\n"

-- the text of a reference
abbrev pub reference_text : Reference → List ℕ
reference_text (Line points positive negative) = line_text points.items positive negative
reference_text (PointAlong points orientation side positive) =
    point_along_text points.items orientation side positive
