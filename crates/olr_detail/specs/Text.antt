-- The rows of a matching and of candidates with what speaks for them. Each row ends with a line
-- feed.
use Rattle.std.specs.Prelude.{ℕ, List, [], ◌++◌, length, Option, codes, decimal, if◌then◌else◌}
use Rattle.olr_keys.specs.Cursor.{key_text}
use Rattle.olr_keys.specs.Key.{KeyValue}
use Rattle.olr_keys.specs.declared.mark.Mark.{Mark}
use Rattle.olr_road.specs.RoadMap.{RoadMap}
use Rattle.olr_route.specs.Route.{id_at}
use Rattle.olr_text.specs.Texts.{texts_from, texts_of}
use Rattle.olr_report.specs.TextRows.{end_row, location_rows, pieces_row}
use Rattle.olr_detail.specs.declared.candidate_detail.CandidateDetail.{CandidateDetail}
use Rattle.olr_detail.specs.declared.candidate_detail.PenaltyParts.{PenaltyParts}
use Rattle.olr_detail.specs.declared.cost.LikelyCost.{LikelyCost}
use Rattle.olr_detail.specs.declared.leg_detail.LegDetail.{LegDetail}
use Rattle.olr_detail.specs.declared.matching_detail.MatchingDetail.{MatchingDetail}
use Rattle.olr_detail.specs.MatchingDetail.{Detailed}

-- ---- candidates and legs

-- the parts of a penalty, behind it
abbrev pub parts_text : PenaltyParts → List ℕ
parts_text parts = codes " = distance " ++ decimal parts.distance ++ codes " bearing "
    ++ decimal parts.bearing ++ codes " class " ++ decimal parts.class ++ codes " form "
    ++ decimal parts.form

-- a candidate: the id of its line, its position on it, and its penalty with its parts
abbrev pub candidate_text : RoadMap → CandidateDetail → List ℕ
candidate_text road detail =
    codes " line " ++ decimal (id_at road detail.candidate.place.line) ++ codes " at "
    ++ decimal detail.candidate.place.at ++ codes " penalty " ++ decimal detail.candidate.penalty
    ++ parts_text detail.parts ++ codes "\n"

-- the row of the candidate of the point of this number
abbrev pub point_row : RoadMap → ℕ → CandidateDetail → List ℕ
point_row road number detail = codes "point " ++ decimal number ++ candidate_text road detail

-- the row of a candidate of this rank
abbrev pub candidate_row : RoadMap → ℕ → CandidateDetail → List ℕ
candidate_row road number detail = decimal number ++ candidate_text road detail

-- a leg: its length, its penalty, the interval of its path, and its class limit
abbrev pub leg_text : LegDetail → List ℕ
leg_text detail =
    codes " length " ++ decimal detail.length ++ codes " penalty " ++ decimal detail.penalty
    ++ codes " of " ++ decimal detail.least ++ codes " to " ++ decimal detail.greatest
    ++ codes " limit " ++ decimal detail.limit ++ codes "\n"

-- the row of the leg of this number
abbrev pub leg_row : ℕ → LegDetail → List ℕ
leg_row number detail = codes "leg " ++ decimal number ++ leg_text detail

-- ---- a matching

-- the likely cost, and whether the route turns back
abbrev pub likely_text : LikelyCost → List ℕ
likely_text likely = codes " cost " ++ decimal likely.cost
    ++ (if likely.turns_back then codes " turns back" else [])

-- the rows of the points and of the legs, each counted from 1
abbrev pub detail_rows : RoadMap → MatchingDetail → List ℕ
detail_rows road detail = texts_from (point_row road) 1 detail.points
    ++ texts_from leg_row 1 detail.legs

-- the rows of a matching: its key with its cost, its points and its legs, its joined route and its
-- location
abbrev pub detailed_rows : RoadMap → Detailed → List ℕ
detailed_rows road one = codes "matching " ++ key_text one.entry.key
    ++ likely_text one.detail.likely ++ codes "\n" ++ detail_rows road one.detail
    ++ pieces_row road (codes "route") one.entry.route ++ location_rows road one.entry.located

-- the text of a page: the rows of its matchings, and where the next page begins
abbrev pub page_text : RoadMap → List Detailed → Option KeyValue → Option Mark → List ℕ
page_text road matchings next mark = texts_of (detailed_rows road) matchings ++ end_row next mark

-- ---- the candidates of points

-- the row of the point of this number: how many candidates it has
abbrev pub count_row : ℕ → ℕ → List ℕ
count_row number count =
    codes "point " ++ decimal number ++ codes " candidates " ++ decimal count ++ codes "\n"

-- the text of the point of this number: how many candidates it has, and their rows; ranks are
-- counted from 1
abbrev pub point_listing : RoadMap → ℕ → List CandidateDetail → List ℕ
point_listing road number details =
    count_row number (length details) ++ texts_from (candidate_row road) 1 details

-- the text of all points, which are counted from 1
abbrev pub listing_text : RoadMap → List (List CandidateDetail) → List ℕ
listing_text road lists = texts_from (point_listing road) 1 lists
