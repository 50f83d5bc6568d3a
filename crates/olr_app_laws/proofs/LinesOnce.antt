-- The lines that a request asks for have one output on a map.
use Rattle.olr_app_laws.proofs.Common.{◌≡◌, ◌++◌, ℕ, Bool, List, [], RoadMap, Data, Format, GeoJson, Json, Text, codes, sym, ◌∙◌}
use Rattle.std.specs.Prelude.{map}
use Rattle.serde_json.specs.Data.{boolean, member, no_members, object}
use Rattle.serde_json.specs.Written.{compact_text}
use Rattle.olr_geojson.specs.Collection.{collection_text}
use Rattle.olr_lines.specs.GeoJson.{line_feature, members_behind}
use Rattle.olr_lines.specs.Json.{line_value}
use Rattle.olr_text.specs.JsonValues.{array_of}
use Rattle.std.specs.Bool.{one_answer}
use Rattle.olr_app.specs.Lines.{AreLinesIn, AreLinesPrinted}
use Rattle.olr_lines.specs.declared.lines.LinesInBox.{LinesInBox}
use Rattle.olr_request.specs.declared.request.LinesRequest.{LinesRequest}

-- lines in a format, by their ranks and by whether there are others
object_of : RoadMap → Bool → List ℕ → Bool → Data
object_of road shapes ranks more = object (
    member (codes "lines") (array_of (line_value road shapes) ranks) (
    member (codes "more") (boolean more) no_members))

collection_of : RoadMap → Bool → List ℕ → Bool → List ℕ
collection_of road shapes ranks more =
    collection_text [] (map (line_feature road shapes) ranks) (members_behind more)

same_text : (format : Format) (shapes : Bool) (road : RoadMap) (a b : LinesInBox)
    (output answer : List ℕ) → a.ranks.items ≡ b.ranks.items → a.more ≡ b.more
    → AreLinesIn format shapes road a output → AreLinesIn format shapes road b answer
    → output ≡ answer
unfolding object_of collection_of
same_text GeoJson shapes road a b output answer ranks more is its =
    is ∙ ((λ k. collection_of road shapes (ranks k) (more k)) ∙ sym its)
same_text Json shapes road a b output answer ranks more is its = is.line_is
    ∙ ((λ k. compact_text (object_of road shapes (ranks k) (more k)) ++ codes "\n")
    ∙ sym its.line_is)
same_text Text shapes road a b output answer ranks more is its = is.line_is
    ∙ ((λ k. compact_text (object_of road shapes (ranks k) (more k)) ++ codes "\n")
    ∙ sym its.line_is)

pub one_output : (asked : LinesRequest) (road : RoadMap) (output answer : List ℕ)
    → AreLinesPrinted asked road output → AreLinesPrinted asked road answer → output ≡ answer
one_output asked road output answer is its = same_text asked.format asked.shape road is.found
    its.found output answer (is.are_first.ranks ∙ sym its.are_first.ranks)
    (one_answer _ _ is.are_first.more its.are_first.more) is.printed its.printed
