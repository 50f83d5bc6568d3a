-- The JSON of a matching and of candidates with what speaks for them, as a value: each member of an
-- object under its name, in the order of the names. All numbers are whole.
use Rattle.std.specs.Prelude.{List, Option, None, codes}
use Rattle.serde_json.specs.Data.{Data, Members, boolean, string, object, no_members, member}
use Rattle.olr_text.specs.JsonValues.{array_of, maybe_member, whole}
use Rattle.olr_keys.specs.Cursor.{cursor_text}
use Rattle.olr_keys.specs.Key.{KeyValue}
use Rattle.olr_keys.specs.declared.mark.Mark.{Mark}
use Rattle.olr_road.specs.RoadMap.{RoadMap}
use Rattle.olr_route.specs.Route.{id_at}
use Rattle.olr_route.specs.declared.piece.Piece.{Piece}
use Rattle.olr_report.specs.Json.{next_value, part_value, pieces_array, place_array}
use Rattle.olr_matching.specs.declared.matched.Matched.{Matched}
use Rattle.olr_report.specs.Location.{LocatedLine, LocatedPoint, LocatedValue, first_length}
use Rattle.olr_report.specs.RoutePart.{part_drawn}
use Rattle.olr_report.specs.Shapes.{shape_if_asked, spot_if_asked, spots_if_asked}
use Rattle.olr_report.specs.ShownMap.{MapShown}
use Rattle.olr_report.specs.declared.route_part.RoutePart.{RoutePart}
use Rattle.olr_detail.specs.declared.candidate_detail.CandidateDetail.{CandidateDetail}
use Rattle.olr_detail.specs.declared.candidate_detail.PenaltyParts.{PenaltyParts}
use Rattle.olr_detail.specs.declared.leg_detail.LegDetail.{LegDetail}
use Rattle.olr_detail.specs.declared.matching_detail.MatchingDetail.{MatchingDetail}
use Rattle.olr_detail.specs.MatchingDetail.{Detailed}

-- ---- candidates and legs

-- the parts of a penalty
abbrev pub parts_object : PenaltyParts → Data
parts_object parts = object (
    member (codes "bearing") (whole parts.bearing) (
    member (codes "class") (whole parts.class) (
    member (codes "distance") (whole parts.distance) (
    member (codes "form") (whole parts.form) no_members))))

-- a candidate: its position on its line, the id of this line and its penalty, what speaks for it, and
-- its spot where shapes are asked for
abbrev pub candidate_object : MapShown → CandidateDetail → Data
candidate_object on detail = object (
    member (codes "at") (whole detail.candidate.place.at) (
    member (codes "classes") (whole detail.classes) (
    member (codes "distance") (whole detail.distance) (
    member (codes "end") (whole detail.end) (
    member (codes "form") (whole detail.form) (
    member (codes "line") (whole (id_at on.road detail.candidate.place.line)) (
    member (codes "parts") (parts_object detail.parts) (
    member (codes "penalty") (whole detail.candidate.penalty) (
    member (codes "sectors") (whole detail.sectors) (
    maybe_member (codes "spot") (spot_if_asked on detail.candidate.place) no_members))))))))))

-- a leg: its length and its penalty, and what speaks for it
abbrev pub leg_object : LegDetail → Data
leg_object detail = object (
    member (codes "greatest") (whole detail.greatest) (
    member (codes "least") (whole detail.least) (
    member (codes "length") (whole detail.length) (
    member (codes "limit") (whole detail.limit) (
    member (codes "penalty") (whole detail.penalty) no_members)))))

-- ---- a matching

-- the members of a location, with the legs among them, and then others
abbrev pub located_members : RoadMap → LocatedValue → List LegDetail → Members → Members
located_members road (LocatedLine outer inner) legs others =
    member (codes "inner") (part_value road inner) (
    member (codes "legs") (array_of leg_object legs) (
    member (codes "outer") (part_value road outer) others))
located_members road (LocatedPoint earliest latest) legs others =
    member (codes "earliest") (place_array road earliest) (
    member (codes "latest") (place_array road latest) (
    member (codes "legs") (array_of leg_object legs) others))

-- A matching: its likely cost, its cursor, its location, its legs, the part of its route that is
-- drawn, if there is one, its points, its joined route, where shapes are asked for its shape, and
-- where it lies if it is a point along a line, its total, and whether it turns back.
abbrev pub matching_object : MapShown → Option RoutePart → KeyValue → Matched → List Piece
    → LocatedValue → MatchingDetail → Data
matching_object on part key matched route located detail = object (
    member (codes "cost") (whole detail.likely.cost) (
    member (codes "cursor") (string (cursor_text key None)) (
    located_members on.road located detail.legs (
    maybe_member (codes "part") (part_drawn part) (
    member (codes "points") (array_of (candidate_object on) detail.points) (
    member (codes "route") (pieces_array on.road route) (
    maybe_member (codes "shape") (shape_if_asked on route located) (
    maybe_member (codes "spot")
    (spots_if_asked on (first_length matched.legs) route located) (
    member (codes "total") (whole key.total) (
    member (codes "turns_back") (boolean detail.likely.turns_back) no_members))))))))))

-- with the part of its route that is drawn
abbrev pub drawn_object : MapShown → Option RoutePart → Detailed → Data
drawn_object on part one = matching_object on part one.entry.key one.entry.matched one.entry.route
    one.entry.located one.detail

-- and without
abbrev pub detailed_object : MapShown → Detailed → Data
detailed_object on one = drawn_object on None one

-- a page: its matchings, and where the next page begins
abbrev pub page_object : MapShown → List Detailed → Option KeyValue → Option Mark → Data
page_object on matchings next mark =
    object (member (codes "matchings") (array_of (detailed_object on) matchings)
    (member (codes "next") (next_value next mark) no_members))

-- ---- the candidates of points

-- the candidates of each point, by rank
abbrev pub listing_object : MapShown → List (List CandidateDetail) → Data
listing_object on lists = object (
    member (codes "points") (array_of (array_of (candidate_object on)) lists) no_members)
