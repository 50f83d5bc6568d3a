-- The numbers by which places were asked for, and which of them are others than those of a
-- confidence.
use Rattle.std.specs.Prelude.{ℕ, ◌++◌, nat_eq, if◌then◌else◌, List, [], ◌∷◌, codes}
use Rattle.olr_candidates.specs.Tolerances.{tolerance_name}
use Rattle.olr_candidates.specs.declared.tolerances.Tolerance.TheVariants.{Radius, Bearing, Class, Lowest, Percent, Slack}
use Rattle.olr_candidates.specs.declared.tolerances.Tolerances.{Tolerances}
use Rattle.olr_confidence.specs.declared.asked.AskedName.{AskedName}
use Rattle.olr_confidence.specs.declared.asked.AskedName.TheVariants.{Apart, Tolerance}
use Rattle.olr_confidence.specs.declared.confidence.AskedNumbers.{AskedNumbers}

-- the numbers of tolerances, and the distance by which matchings are told apart
abbrev pub asked_with : Tolerances → ℕ → AskedNumbers
asked_with tolerances apart = record {
  radius = tolerances.radius;
  bearing = tolerances.bearing;
  class = tolerances.class;
  lowest = tolerances.lowest;
  percent = tolerances.percent;
  slack = tolerances.slack;
  apart = apart;
}

-- the text of a name, as in the option that gives its value
abbrev pub name_text : AskedName → List ℕ
name_text (Tolerance name) = tolerance_name name
name_text Apart = codes "apart"

-- the name of a number, if it is another one
abbrev pub if_other : AskedName → ℕ → ℕ → List AskedName
if_other name one other = if nat_eq one other then [] else name ∷ []

-- the names of those that are others: tolerances in their order, then the distance
abbrev pub others_of : AskedNumbers → AskedNumbers → List AskedName
others_of asked made = if_other (Tolerance Radius) asked.radius made.radius
    ++ if_other (Tolerance Bearing) asked.bearing made.bearing
    ++ if_other (Tolerance Class) asked.class made.class
    ++ if_other (Tolerance Lowest) asked.lowest made.lowest
    ++ if_other (Tolerance Percent) asked.percent made.percent
    ++ if_other (Tolerance Slack) asked.slack made.slack
    ++ if_other Apart asked.apart made.apart
