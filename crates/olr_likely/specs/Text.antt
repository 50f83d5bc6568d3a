-- The text of places as they are shown. Each row ends with a line feed; gaps are in penalty points,
-- costs in thirtieths of one. What a confidence says isn't in it.
use Rattle.std.specs.Prelude.{ℕ, List, [], ◌++◌, Option, None, Some, codes, decimal}
use Rattle.olr_keys.specs.Cursor.{key_text}
use Rattle.olr_road.specs.RoadMap.{RoadMap}
use Rattle.olr_text.specs.Texts.{text_or, texts_from}
use Rattle.olr_report.specs.Location.{LocatedLine, LocatedPoint, LocatedValue, located_value}
use Rattle.olr_report.specs.TextRows.{end_row, part_row, place_row}
use Rattle.olr_detail.specs.Text.{detail_rows, likely_text}
use Rattle.olr_detail.specs.declared.matching_detail.MatchingDetail.{MatchingDetail}
use Rattle.olr_places.specs.Verdict.{verdict_word}
use Rattle.olr_places.specs.declared.ending.Verdict.{Verdict}
use Rattle.olr_places.specs.declared.opener.Opener.{Opener}
use Rattle.olr_likely.specs.declared.showing.RankAndCost.{RankAndCost}
use Rattle.olr_likely.specs.declared.showing.ShownPlace.{ShownPlace}
use Rattle.olr_likely.specs.declared.showing.ShownPlaces.{ShownPlaces}

-- the place of this number: the cursor of the matching that opened it, its gap, and how many
-- matchings belong to it
abbrev pub head_text : ℕ → Opener → List ℕ
head_text number opener =
    codes "place " ++ decimal number ++ codes " matching " ++ key_text opener.key ++ codes " gap "
    ++ decimal opener.gap
    ++ codes " members " ++ decimal opener.members

-- the rank of a place, in the likely order
abbrev pub rank_text : Option RankAndCost → List ℕ
rank_text None = []
rank_text (Some likely) = codes " rank " ++ decimal likely.rank

-- its cost, in the likely order; in detail with whether the matching that opened it turns back
abbrev pub cost_text : Option RankAndCost → Option MatchingDetail → List ℕ
cost_text likely (Some detail) = likely_text detail.likely
cost_text (Some likely) None = codes " cost " ++ decimal likely.cost
cost_text None None = []

-- in detail, the rows of the points and of the legs
abbrev pub detail_text : RoadMap → Option MatchingDetail → List ℕ
detail_text road None = []
detail_text road (Some detail) = detail_rows road detail

-- the stretch of road of a matching: the outer part of a line, or the earliest and the latest place
-- of a point along a line
abbrev pub covered_rows : RoadMap → LocatedValue → List ℕ
covered_rows road (LocatedLine outer inner) = part_row road (codes "outer") outer
covered_rows road (LocatedPoint earliest latest) =
    place_row road (codes "earliest") earliest ++ place_row road (codes "latest") latest

-- The rows of the place of this number: its first row, with its rank and its cost; its points and
-- its legs; and the stretch of road.
abbrev pub place_rows : RoadMap → ℕ → ShownPlace → List ℕ
place_rows road number place =
    head_text number place.opener ++ rank_text place.likely ++ cost_text place.likely place.detail
    ++ codes "\n"
    ++ detail_text road place.detail
    ++ covered_rows road (located_value place.opener.covered.located)

-- how many matchings were looked at, the margin and the verdict, a row each
abbrev pub summary_rows : ℕ → Option ℕ → Verdict → List ℕ
summary_rows count margin word =
    codes "looked " ++ decimal count ++ codes "\nmargin " ++ text_or decimal (codes "none") margin
    ++ codes "\nverdict " ++ verdict_word word ++ codes "\n"

-- the text of the places that are shown
abbrev pub shown_text : RoadMap → ShownPlaces → List ℕ
shown_text road shown = texts_from (place_rows road) 1 shown.places.items
    ++ summary_rows shown.looked shown.margin shown.verdict ++ end_row shown.next None
