-- Laws on joined routes and on the two parts of a line. Each is the contract of a public function
-- that does nothing at run time.
use Rattle.std.specs.Prelude.{◌≡◌, ℕ, List, ◌++◌, Option, Some}
use Rattle.olr_report.specs.Common.{Leg, Piece}
use Rattle.olr_report.specs.Location.{IsLineLocation}
use Rattle.olr_report.specs.Steps.{Step, steps_of}

-- The inner part lies within the outer one: where there is an inner part there is an outer one, and
-- that is the inner one with further steps before it and after it, if any.
abbrev pub InnerLiesWithinOuter : Type 0
InnerLiesWithinOuter = (legs : List Leg) (positive negative : Option ℕ)
    (outer : Option (List Piece)) (inner : List Piece)
    → IsLineLocation legs positive negative outer (Some inner)
    → (part : List Piece) × (before : List Step) × (behind : List Step) × (outer ≡ Some part)
    × (steps_of part ≡ before ++ steps_of inner ++ behind)
