-- The text of why a reference has no matching, or that it has one: the rows of each point and the
-- lines near it, those of each leg and its pairs, the verdict, and what would help. Each row ends
-- with a line feed. Distances are in centimetres, positions and lengths in decimetres.
use Rattle.std.specs.Prelude.{ℕ, ◌-◌, Bool, List, [], ◌++◌, Option, None, Some, option_map, unwrap_or, slice_get, codes, decimal, if◌then◌else◌, nat_lt}
use Rattle.olr_candidates.specs.declared.near.FailedConditions.{FailedConditions}
use Rattle.olr_why.specs.Common.{KeyValue, NearLine, RoadMap}
use Rattle.olr_candidates.specs.Tolerances.{tolerance_name}
use Rattle.olr_keys.specs.Cursor.{key_text}
use Rattle.olr_road.specs.RoadMap.{RoadLine}
use Rattle.olr_route.specs.Route.{id_at}
use Rattle.olr_text.specs.Texts.{text_or, texts_from, texts_of}
use Rattle.olr_why.specs.Reasons.{WhyValue}
use Rattle.olr_why.specs.declared.leg.LegReason.{LegReason}
use Rattle.olr_why.specs.declared.pair.Better.{Better}
use Rattle.olr_why.specs.declared.pair.PairLength.{PairLength}
use Rattle.olr_why.specs.declared.point.PointReason.{PointReason}
use Rattle.olr_why.specs.declared.remedy.Change.{Change}
use Rattle.olr_why.specs.declared.remedy.Change.TheVariants.{Set, WithoutBans}
use Rattle.olr_why.specs.declared.remedy.Remedy.{Remedy}
use Rattle.olr_why.specs.declared.verdict.Verdict.{Verdict}
use Rattle.olr_why.specs.declared.verdict.Verdict.TheVariants.{Chain, Crowded, Leg, Match, Point}

-- ---- points

-- the class of the line of a rank, and its form; 0 where there is no such line
abbrev pub class_at : RoadMap → ℕ → ℕ
class_at road rank =
    unwrap_or (option_map (λ (line : RoadLine). line.class) (slice_get road.lines rank)) 0

abbrev pub form_at : RoadMap → ℕ → ℕ
form_at road rank =
    unwrap_or (option_map (λ (line : RoadLine). line.form) (slice_get road.lines rank)) 0

-- a word and a space before it, where it applies
abbrev pub word_if : Bool → List ℕ → List ℕ
word_if applies word = if applies then codes " " ++ word else []

-- the words of the conditions that a line fails
abbrev pub failed_words : FailedConditions → List ℕ
failed_words failed = word_if failed.radius (codes "radius")
    ++ word_if failed.bearing (codes "bearing") ++ word_if failed.class (codes "class")
    ++ word_if failed.end (codes "end")

-- what a line is for the point: a candidate with this penalty, or none, with the conditions that it
-- fails
abbrev pub rating_text : FailedConditions → Option ℕ → List ℕ
rating_text failed (Some penalty) = codes " penalty " ++ decimal penalty
rating_text failed None = codes " not" ++ failed_words failed

-- the row of a line near a point
abbrev pub near_row : RoadMap → NearLine → List ℕ
near_row road near = codes "near line " ++ decimal (id_at road near.line) ++ codes " distance "
    ++ decimal near.distance ++ codes " at " ++ decimal near.at
    ++ codes " sector " ++ text_or decimal (codes "none") near.sector ++ codes " class "
    ++ decimal (class_at road near.line)
    ++ codes " form " ++ decimal (form_at road near.line) ++ rating_text near.failed near.penalty
    ++ codes "\n"

-- the rows of the point of this number: how many candidates it has, or that they are more than 64,
-- and the lines nearest to it
abbrev pub point_rows : RoadMap → ℕ → PointReason → List ℕ
point_rows road number point = codes "point " ++ decimal number ++ codes " candidates "
    ++ text_or decimal (codes "many") point.candidates ++ codes "\n"
    ++ texts_of (near_row road) point.nearest

-- ---- legs

-- how far a length lies below the least one that a leg admits
abbrev pub short_of : ℕ → Option ℕ → Option ℕ
short_of least None = None
short_of least (Some length) = if nat_lt length least then Some (least - length) else None

-- how far it lies above the greatest one
abbrev pub long_of : ℕ → Option ℕ → Option ℕ
long_of greatest None = None
long_of greatest (Some length) = if nat_lt greatest length then Some (length - greatest) else None

-- how far a length lies below the least one that a leg admits, or above the greatest one
abbrev pub miss_text : Option ℕ → Option ℕ → List ℕ
miss_text (Some short) long = codes " short " ++ decimal short
miss_text None (Some long) = codes " long " ++ decimal long
miss_text None None = []

-- what another class limit gives
abbrev pub better_text : Option Better → List ℕ
better_text None = []
better_text (Some better) = codes " class " ++ decimal better.class ++ codes " length "
    ++ decimal better.length

-- the row of a pair of a leg that admits these lengths: its length, none where it is too far, by
-- how much it misses the interval, and what another class limit gives
abbrev pub pair_row : ℕ → ℕ → PairLength → List ℕ
pair_row least greatest pair = codes "pair " ++ decimal pair.first ++ codes " "
    ++ decimal pair.second ++ codes " length " ++ text_or decimal (codes "none") pair.length
    ++ miss_text (short_of least pair.length) (long_of greatest pair.length)
    ++ better_text pair.better ++ codes "\n"

-- the rows of the leg of this number: its class limit, the lengths that it admits, how many pairs
-- of candidates it admits, of how many, and its pairs
abbrev pub leg_rows : ℕ → LegReason → List ℕ
leg_rows number leg = codes "leg " ++ decimal number ++ codes " class " ++ decimal leg.class
    ++ codes " from " ++ decimal leg.from ++ codes " to " ++ decimal leg.to ++ codes " admits "
    ++ decimal leg.admits ++ codes " of " ++ decimal leg.of ++ codes "\n"
    ++ texts_of (pair_row leg.from leg.to) leg.pairs

-- ---- the verdict, and what would help

-- the word of a verdict
abbrev pub verdict_word : Verdict → List ℕ
verdict_word (Crowded number) = codes "crowded"
verdict_word (Point number) = codes "point"
verdict_word (Leg number) = codes "leg"
verdict_word (Chain number) = codes "chain"
verdict_word Match = codes "match"

-- the number of the point or the leg that it names, if it names one
abbrev pub number_of : Verdict → Option ℕ
number_of (Crowded number) = Some number
number_of (Point number) = Some number
number_of (Leg number) = Some number
number_of (Chain number) = Some number
number_of Match = None

-- a number with a space before it, if there is one
abbrev pub number_text : Option ℕ → List ℕ
number_text None = []
number_text (Some number) = codes " " ++ decimal number

-- the row of the verdict
abbrev pub verdict_row : Verdict → List ℕ
verdict_row verdict = codes "verdict " ++ verdict_word verdict ++ number_text (number_of verdict)
    ++ codes "\n"

-- a change, as it is written
abbrev pub change_text : Change → List ℕ
change_text (Set name value) = codes "--" ++ tolerance_name name ++ codes " " ++ decimal value
change_text WithoutBans = codes "without-bans"

-- the matching that a change gives, if it gives one
abbrev pub matching_text : Option KeyValue → List ℕ
matching_text None = codes " end"
matching_text (Some key) = codes " matching " ++ key_text key

-- the row of a change that would help
abbrev pub remedy_row : Remedy → List ℕ
remedy_row remedy = codes "try " ++ change_text remedy.change ++ matching_text remedy.matching
    ++ codes "\n"

-- the whole text
abbrev pub why_text : RoadMap → WhyValue → List ℕ
why_text road why = texts_from (point_rows road) 1 why.points ++ texts_from leg_rows 1 why.legs
    ++ verdict_row why.verdict ++ texts_of remedy_row why.remedies ++ codes "end\n"
