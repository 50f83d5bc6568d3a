-- The JSON of places as they are shown, as a value: each member of an object under its name, in the
-- order of the names. All numbers are whole; gaps are in penalty points, costs in thirtieths of one.
use Rattle.std.specs.Prelude.{Option, None, Some, codes, option_map}
use Rattle.std.specs.Global.{Vec}
use Rattle.serde_json.specs.Data.{Data, Members, boolean, string, object, no_members, member}
use Rattle.olr_text.specs.JsonValues.{array_of, maybe_member, or_null, whole, whole_or_null}
use Rattle.olr_confidence.specs.Json.{name_value, range_object, reason_object}
use Rattle.olr_report.specs.Json.{entry_object, next_value}
use Rattle.olr_report.specs.Location.{located_value}
use Rattle.olr_report.specs.RoutePart.{part_drawn}
use Rattle.olr_report.specs.ShownMap.{MapShown}
use Rattle.olr_report.specs.declared.route_part.RoutePart.{RoutePart}
use Rattle.olr_detail.specs.Json.{matching_object}
use Rattle.olr_detail.specs.declared.matching_detail.MatchingDetail.{MatchingDetail}
use Rattle.olr_places.specs.Places.{entry_of}
use Rattle.olr_places.specs.Verdict.{verdict_word}
use Rattle.olr_places.specs.declared.opener.Opener.{Opener}
use Rattle.olr_confidence.specs.declared.asked.AskedName.{AskedName}
use Rattle.olr_likely.specs.Values.{ToldPlaceValue}
use Rattle.olr_likely.specs.declared.told.ToldPlaces.{ToldPlaces}
use Rattle.olr_likely.specs.declared.showing.ShownPlace.{ShownPlace}
use Rattle.olr_likely.specs.declared.showing.ShownPlaces.{ShownPlaces}

-- the matching that opened a place: as a page has it, or with what speaks for it
abbrev pub opener_object : MapShown → Opener → Option MatchingDetail → Data
opener_object on opener None = entry_object on (entry_of opener)
opener_object on opener (Some detail) = matching_object on None opener.key opener.matched
    opener.route.items (located_value opener.covered.located) detail

-- the cost and the rank of a place, which it has in the likely order
abbrev pub cost_value : ShownPlace → Option Data
cost_value place = option_map (λ likely. whole likely.cost) place.likely

abbrev pub rank_value : ShownPlace → Option Data
rank_value place = option_map (λ likely. whole likely.rank) place.likely

-- where a confidence is given, how probable a place is, in millionths, and why no more: null where a
-- number differs from its own, and of a point along a line
abbrev pub probability_value : ShownPlace → Option Data
probability_value place =
    option_map (or_null (λ (said : ToldPlaceValue). whole said.probability)) place.told

abbrev pub reasons_value : ShownPlace → Option Data
reasons_value place =
    option_map (or_null (λ (said : ToldPlaceValue). array_of reason_object said.reasons)) place.told

-- a place, and the part of the route of its opener that is drawn, if one is
abbrev pub place_object : MapShown → Option RoutePart → ShownPlace → Data
place_object on part place = object (
    maybe_member (codes "cost") (cost_value place) (
    member (codes "gap") (whole place.opener.gap) (
    member (codes "matching") (opener_object on place.opener place.detail) (
    member (codes "members") (whole place.opener.members) (
    maybe_member (codes "part") (part_drawn part) (
    maybe_member (codes "probability") (probability_value place) (
    maybe_member (codes "rank") (rank_value place) (
    maybe_member (codes "reasons") (reasons_value place) no_members))))))))

-- where a confidence is given, the names of the numbers that differ from its own, how different the
-- sender's map is, in thousandths, and how probable it is that none of the places is right, in
-- millionths: the last two are null where nothing is known, the first of them also where the file has
-- null
abbrev pub differs_value : ShownPlaces → Option Data
differs_value shown =
    option_map (λ (names : Vec AskedName). array_of name_value names.items) shown.differs

abbrev pub map_differs_value : ShownPlaces → Option Data
map_differs_value shown =
    option_map (λ (told : ToldPlaces). or_null range_object told.map_differs) shown.told

abbrev pub none_value : ShownPlaces → Option Data
none_value shown =
    option_map (λ (told : ToldPlaces). whole_or_null told.none) shown.told

-- the members of the places that are shown: how many matchings were looked at, the margin, the
-- cursor after which looking would go on, the places, and the verdict; and what a confidence says of
-- all
abbrev pub shown_members : MapShown → ShownPlaces → Members
shown_members on shown =
    member (codes "looked") (whole shown.looked) (
    maybe_member (codes "map_differs") (map_differs_value shown) (
    member (codes "margin") (whole_or_null shown.margin) (
    member (codes "next") (next_value shown.next None) (
    maybe_member (codes "none_of_these") (none_value shown) (
    member (codes "places") (array_of (place_object on None) shown.places.items) (
    member (codes "verdict") (string (verdict_word shown.verdict)) no_members))))))

-- their object, which in the likely order says whether a place may be missing, and where a confidence
-- is given which numbers differ
abbrev pub shown_object : MapShown → ShownPlaces → Data
shown_object on shown = object (
    maybe_member (codes "cut") (option_map boolean shown.cut) (
    maybe_member (codes "differs") (differs_value shown) (shown_members on shown)))
