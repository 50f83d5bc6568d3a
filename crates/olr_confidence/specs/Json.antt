-- The JSON of a reason, of how different the sender's map is, and of the name of a number: each member
-- of an object under its name, in the order of the names. All numbers are whole.
use Rattle.std.specs.Prelude.{ℕ, List, codes}
use Rattle.serde_json.specs.Data.{Data, string, object, no_members, member}
use Rattle.olr_text.specs.JsonValues.{whole, whole_or_null}
use Rattle.olr_confidence.specs.Asked.{name_text}
use Rattle.olr_confidence.specs.declared.asked.AskedName.{AskedName}
use Rattle.olr_confidence.specs.declared.confidence.MapRange.{MapRange}
use Rattle.olr_confidence.specs.declared.reason.Reason.{Reason}
use Rattle.olr_confidence.specs.declared.reason.ReasonKind.{ReasonKind}
use Rattle.olr_confidence.specs.declared.reason.ReasonKind.TheVariants.{Behind, Direction, Distance, End, Lines, Longer, Shorter, TurningBack}

-- the word of what a reason is about
abbrev pub kind_word : ReasonKind → List ℕ
kind_word TurningBack = codes "turning_back"
kind_word Longer = codes "longer"
kind_word Shorter = codes "shorter"
kind_word Distance = codes "distance"
kind_word Direction = codes "direction"
kind_word End = codes "end"
kind_word Behind = codes "behind"
kind_word Lines = codes "lines"

-- a reason; `at` is null where it isn't about a point or a leg
abbrev pub reason_object : Reason → Data
reason_object reason = object (
    member (codes "at") (whole_or_null reason.at) (
    member (codes "by") (whole reason.by) (
    member (codes "kind") (string (kind_word reason.kind)) no_members)))

-- how different the sender's map is, in thousandths
abbrev pub range_object : MapRange → Data
range_object range = object (
    member (codes "high") (whole range.high) (
    member (codes "low") (whole range.low) (
    member (codes "value") (whole range.value) no_members)))

-- the name of a number
abbrev pub name_value : AskedName → Data
name_value name = string (name_text name)
