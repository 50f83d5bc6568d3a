-- The JSON of why a reference has no matching, or that it has one, as a value: each member of an
-- object under its name, in the order of the names. All numbers are whole; distances are in
-- centimetres, positions and lengths in decimetres, and coordinates in microdegrees.
use Rattle.std.specs.Prelude.{ℕ, Bool, List, [], ◌∷◌, ◌++◌, Option, None, Some, codes, if◌then◌else◌, option_map}
use Rattle.serde_json.specs.Data.{Data, string, Members, object, no_members, member}
use Rattle.olr_base.specs.Coordinates.{Coordinates}
use Rattle.olr_shape.specs.Position.{spot_on}
use Rattle.olr_text.specs.JsonValues.{array_of, coordinates_array, maybe_member, or_null, whole, whole_or_null}
use Rattle.olr_candidates.specs.declared.near.FailedConditions.{FailedConditions}
use Rattle.olr_candidates.specs.Tolerances.{tolerance_name}
use Rattle.olr_why.specs.Common.{KeyValue, NearLine, RoadMap}
use Rattle.olr_keys.specs.Cursor.{key_text}
use Rattle.olr_route.specs.Route.{id_at}
use Rattle.olr_why.specs.Text.{class_at, form_at, long_of, number_of, short_of, verdict_word}
use Rattle.olr_why.specs.Reasons.{WhyValue}
use Rattle.olr_why.specs.declared.leg.LegReason.{LegReason}
use Rattle.olr_why.specs.declared.pair.Better.{Better}
use Rattle.olr_why.specs.declared.pair.PairLength.{PairLength}
use Rattle.olr_why.specs.declared.point.PointReason.{PointReason}
use Rattle.olr_why.specs.declared.remedy.Change.{Change}
use Rattle.olr_why.specs.declared.remedy.Change.TheVariants.{Set, WithoutBans}
use Rattle.olr_why.specs.declared.remedy.Remedy.{Remedy}
use Rattle.olr_why.specs.declared.verdict.Verdict.{Verdict}

-- ---- points

-- a word, where it applies
abbrev pub words_if : Bool → List ℕ → List (List ℕ)
words_if applies word = if applies then word ∷ [] else []

-- the words of the conditions that a line fails
abbrev pub failed_conditions : FailedConditions → List (List ℕ)
failed_conditions failed = words_if failed.radius (codes "radius")
    ++ words_if failed.bearing (codes "bearing") ++ words_if failed.class (codes "class")
    ++ words_if failed.end (codes "end")

-- a line near a point, with the class, the form and the id of the line, and with a spot where
-- there is one
abbrev pub near_members : ℕ → ℕ → ℕ → Option Data → NearLine → Members
near_members class form line spot near =
    member (codes "at") (whole near.at) (
    member (codes "class") (whole class) (
    member (codes "distance") (whole near.distance) (
    member (codes "form") (whole form) (
    member (codes "line") (whole line) (
    member (codes "not") (array_of string (failed_conditions near.failed)) (
    member (codes "penalty") (whole_or_null near.penalty) (
    member (codes "sector") (whole_or_null near.sector) (
    maybe_member (codes "spot") spot no_members))))))))

-- the spot of the place on a line that is nearest to a point, where spots are asked for
abbrev pub spot_if : RoadMap → Bool → NearLine → Option Coordinates
spot_if road spots near =
    if spots then spot_on road (record { line = near.line; at = near.at }) else None

-- a line near a point of a map, with its spot where spots are asked for
abbrev pub near_object : RoadMap → Bool → NearLine → Data
near_object road spots near = object (near_members (class_at road near.line)
    (form_at road near.line) (id_at road near.line)
    (option_map coordinates_array (spot_if road spots near)) near)

-- a point: how many candidates it has, null for more than 64, and the lines nearest to it
abbrev pub point_object : RoadMap → Bool → PointReason → Data
point_object road spots point = object (
    member (codes "candidates") (whole_or_null point.candidates) (
    member (codes "nearest") (array_of (near_object road spots) point.nearest) no_members))

-- ---- legs

-- what another class limit gives
abbrev pub better_object : Better → Data
better_object better = object
    (member (codes "class") (whole better.class)
    (member (codes "length") (whole better.length) no_members))

-- a pair of a leg that admits these lengths
abbrev pub pair_object : ℕ → ℕ → PairLength → Data
pair_object least greatest pair = object (
    member (codes "better") (or_null better_object pair.better) (
    member (codes "first") (whole pair.first) (
    member (codes "length") (whole_or_null pair.length) (
    member (codes "long") (whole_or_null (long_of greatest pair.length)) (
    member (codes "second") (whole pair.second) (
    member (codes "short") (whole_or_null (short_of least pair.length)) no_members))))))

-- a leg
abbrev pub leg_object : LegReason → Data
leg_object leg = object (
    member (codes "admits") (whole leg.admits) (
    member (codes "class") (whole leg.class) (
    member (codes "from") (whole leg.from) (
    member (codes "of") (whole leg.of) (
    member (codes "pairs") (array_of (pair_object leg.from leg.to) leg.pairs) (
    member (codes "to") (whole leg.to) no_members))))))

-- ---- the verdict, and what would help

-- the name of what is changed
abbrev pub option_of : Change → List ℕ
option_of (Set name value) = tolerance_name name
option_of WithoutBans = codes "without-bans"

-- the value that it is given
abbrev pub value_in : Change → Option ℕ
value_in (Set name value) = Some value
value_in WithoutBans = None

-- a change that would help, with the cursor of the matching, null where there is none
abbrev pub remedy_object : Remedy → Data
remedy_object remedy = object (
    member (codes "matching") (or_null (λ (key : KeyValue). string (key_text key))
    remedy.matching) (
    member (codes "option") (string (option_of remedy.change)) (
    member (codes "value") (whole_or_null (value_in remedy.change)) no_members)))

-- the verdict: the number of the point or the leg that it names, and its word
abbrev pub verdict_object : Verdict → Data
verdict_object verdict = object (
    member (codes "at") (whole_or_null (number_of verdict)) (
    member (codes "word") (string (verdict_word verdict)) no_members))

-- all of it, with the spots of near lines where they are asked for
abbrev pub why_object : RoadMap → Bool → WhyValue → Data
why_object road spots why = object (
    member (codes "legs") (array_of leg_object why.legs) (
    member (codes "points") (array_of (point_object road spots) why.points) (
    member (codes "remedies") (array_of remedy_object why.remedies) (
    member (codes "verdict") (verdict_object why.verdict) no_members))))
