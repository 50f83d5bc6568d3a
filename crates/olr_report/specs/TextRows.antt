-- The rows of a matching in the text of a page. Each row ends with a line feed; positions and
-- lengths are in decimetres.
use Rattle.std.specs.Prelude.{ℕ, List, [], ◌++◌, Option, None, Some, codes, decimal, if◌then◌else◌, nat_lt}
use Rattle.olr_report.specs.Common.{Candidate, KeyValue, Leg, Mark, Piece, Place, RoadMap}
use Rattle.olr_keys.specs.Cursor.{key_text, cursor_text}
use Rattle.olr_route.specs.Route.{id_at}
use Rattle.olr_text.specs.Texts.{texts_from}
use Rattle.olr_report.specs.Entries.{Entry}
use Rattle.olr_report.specs.Location.{LocatedLine, LocatedPoint, LocatedValue}

-- ---- candidates and legs

-- the row of the candidate of the point of this number: the id of its line, its position on it, and
-- its penalty
abbrev pub point_row : RoadMap → ℕ → Candidate → List ℕ
point_row road number candidate =
    codes "point " ++ decimal number ++ codes " line " ++ decimal (id_at road candidate.place.line)
    ++ codes " at " ++ decimal candidate.place.at ++ codes " penalty " ++ decimal candidate.penalty
    ++ codes "\n"

-- the rows of candidates, the first of the point of this number
abbrev pub point_rows : RoadMap → ℕ → List Candidate → List ℕ
point_rows road = texts_from (point_row road)

-- the row of the leg of this number
abbrev pub leg_row : ℕ → Leg → List ℕ
leg_row number leg =
    codes "leg " ++ decimal number ++ codes " length " ++ decimal leg.length ++ codes " penalty "
    ++ decimal leg.penalty ++ codes "\n"

-- the rows of legs, the first of which has this number
abbrev pub leg_rows : ℕ → List Leg → List ℕ
leg_rows = texts_from leg_row

-- ---- the route and the location

-- the piece of this number, with a space before it where it isn't the first: the id of its line,
-- and the positions where it begins and ends
abbrev pub piece_text : RoadMap → ℕ → Piece → List ℕ
piece_text road number piece = (if nat_lt 1 number then codes " " else [])
    ++ decimal (id_at road piece.line) ++ codes "@" ++ decimal piece.from ++ codes "-"
    ++ decimal piece.to

-- the row of pieces under a name
abbrev pub pieces_row : RoadMap → List ℕ → List Piece → List ℕ
pieces_row road name pieces = name ++ codes " " ++ texts_from (piece_text road) 1 pieces
    ++ codes "\n"

-- the row of a part of the route under a name, which may be none
abbrev pub part_row : RoadMap → List ℕ → Option (List Piece) → List ℕ
part_row road name None = name ++ codes " none\n"
part_row road name (Some part) = pieces_row road name part

-- the row of a place under a name: the id of its line, and the position on it
abbrev pub place_row : RoadMap → List ℕ → Place → List ℕ
place_row road name place = name ++ codes " " ++ decimal (id_at road place.line) ++ codes "@"
    ++ decimal place.at ++ codes "\n"

-- the two rows of the location: the outer and the inner part of a line, or the earliest and the
-- latest place of a point along a line
abbrev pub location_rows : RoadMap → LocatedValue → List ℕ
location_rows road (LocatedLine outer inner) =
    part_row road (codes "outer") outer ++ part_row road (codes "inner") inner
location_rows road (LocatedPoint earliest latest) =
    place_row road (codes "earliest") earliest ++ place_row road (codes "latest") latest

-- ---- a matching, and the end of a page

-- the rows of a matching: its key, its points and its legs, each counted from 1, its joined route
-- and its location
abbrev pub entry_rows : RoadMap → Entry → List ℕ
entry_rows road entry = codes "matching " ++ key_text entry.key ++ codes "\n"
    ++ point_rows road 1 entry.matched.candidates
    ++ leg_rows 1 entry.matched.legs ++ pieces_row road (codes "route") entry.route
    ++ location_rows road entry.located

-- The last row of a page: `more` and the cursor after which further matchings follow, with this
-- mark or without one; or `end` where none do.
abbrev pub end_row : Option KeyValue → Option Mark → List ℕ
end_row None mark = codes "end\n"
end_row (Some last) mark = codes "more " ++ cursor_text last mark ++ codes "\n"
