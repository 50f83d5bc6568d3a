-- The JSON of a page of matchings, as a value: each member of an object under its name, in the
-- order of the names. All numbers are whole; positions and lengths are in decimetres.
use Rattle.std.specs.Prelude.{ℕ, List, Option, None, codes}
use Rattle.serde_json.specs.Data.{Data, Members, string, array, object, no_items, item, no_members, member}
use Rattle.olr_text.specs.JsonValues.{whole, array_of, maybe_member, or_null, IsJsonLine}
use Rattle.olr_report.specs.Common.{Candidate, KeyValue, Leg, Mark, Matched, PageValue, Piece, Place, Reference, RoadMap}
use Rattle.olr_keys.specs.Cursor.{cursor_text}
use Rattle.olr_route.specs.Route.{id_at}
use Rattle.olr_report.specs.Entries.{Entry, AreEntriesOf}
use Rattle.olr_report.specs.Location.{LocatedLine, LocatedPoint, LocatedValue, first_length}
use Rattle.olr_report.specs.RoutePart.{part_drawn}
use Rattle.olr_report.specs.Shapes.{shape_if_asked, spot_if_asked, spots_if_asked}
use Rattle.olr_report.specs.ShownMap.{MapShown}
use Rattle.olr_report.specs.Text.{next_after}
use Rattle.olr_report.specs.declared.route_part.RoutePart.{RoutePart}

-- ---- candidates and legs

-- the candidate of a point: its position on its line, the id of this line, and its penalty, and its
-- spot where shapes are asked for
abbrev pub candidate_object : MapShown → Candidate → Data
candidate_object on candidate = object (
    member (codes "at") (whole candidate.place.at) (
    member (codes "line") (whole (id_at on.road candidate.place.line)) (
    member (codes "penalty") (whole candidate.penalty) (
    maybe_member (codes "spot") (spot_if_asked on candidate.place) no_members))))

-- a leg: its length and its penalty
abbrev pub leg_object : Leg → Data
leg_object leg =
    object (member (codes "length") (whole leg.length)
    (member (codes "penalty") (whole leg.penalty) no_members))

-- ---- the route and the location

-- a piece, as `[id, from, to]`: the id of its line, and the positions where it begins and ends
abbrev pub piece_array : RoadMap → Piece → Data
piece_array road piece =
    array (item (whole (id_at road piece.line))
    (item (whole piece.from) (item (whole piece.to) no_items)))

-- an array of pieces
abbrev pub pieces_array : RoadMap → List Piece → Data
pieces_array road pieces = array_of (piece_array road) pieces

-- a part of the route, null where it is none
abbrev pub part_value : RoadMap → Option (List Piece) → Data
part_value road part = or_null (pieces_array road) part

-- a place, as `[id, at]`: the id of its line, and the position on it
abbrev pub place_array : RoadMap → Place → Data
place_array road place =
    array (item (whole (id_at road place.line)) (item (whole place.at) no_items))

-- ---- a matching

-- the members of a location, with the legs among them, and then others: a line has its inner and
-- its outer part, and a point along a line its earliest and its latest place
abbrev pub located_members : RoadMap → LocatedValue → List Leg → Members → Members
located_members road (LocatedLine outer inner) legs others =
    member (codes "inner") (part_value road inner) (
    member (codes "legs") (array_of leg_object legs) (
    member (codes "outer") (part_value road outer) others))
located_members road (LocatedPoint earliest latest) legs others =
    member (codes "earliest") (place_array road earliest) (
    member (codes "latest") (place_array road latest) (
    member (codes "legs") (array_of leg_object legs) others))

-- A matching: its cursor, its location, its legs, the part of its route that is drawn, if there is
-- one, its points, its joined route, where shapes are asked for its shape, and where it lies if it is
-- a point along a line, and its total.
abbrev pub matching_object : MapShown → Option RoutePart → KeyValue → Matched → List Piece
    → LocatedValue → Data
matching_object on part key matched route located = object (
    member (codes "cursor") (string (cursor_text key None)) (
    located_members on.road located matched.legs (
    maybe_member (codes "part") (part_drawn part) (
    member (codes "points") (array_of (candidate_object on) matched.candidates) (
    member (codes "route") (pieces_array on.road route) (
    maybe_member (codes "shape") (shape_if_asked on route located) (
    maybe_member (codes "spot")
    (spots_if_asked on (first_length matched.legs) route located) (
    member (codes "total") (whole key.total) no_members))))))))

-- the matching of an entry, with the part of its route that is drawn
abbrev pub drawn_object : MapShown → Option RoutePart → Entry → Data
drawn_object on part entry =
    matching_object on part entry.key entry.matched entry.route entry.located

-- and without
abbrev pub entry_object : MapShown → Entry → Data
entry_object on entry = drawn_object on None entry

-- ---- a page

-- the cursor after which further matchings follow, with this mark or without one; null where none
-- do
abbrev pub next_value : Option KeyValue → Option Mark → Data
next_value next mark = or_null (λ (last : KeyValue). string (cursor_text last mark)) next

-- a page: its matchings, and where the next page begins
abbrev pub page_object : MapShown → List Entry → Option KeyValue → Option Mark → Data
page_object on entries next mark =
    object (member (codes "matchings") (array_of (entry_object on) entries)
    (member (codes "next") (next_value next mark) no_members))

-- The JSON of a page whose keys have these parts: the line of its value.
pub record IsPageJson (on : MapShown) (reference : Reference) (page : PageValue)
    (matched : List Matched) (mark : Option Mark) (text : List ℕ)
    : Type 0 where
  pub entries : List Entry
  pub are_entries : AreEntriesOf reference page.keys matched entries
  pub json : IsJsonLine (page_object on entries (next_after page) mark) text
