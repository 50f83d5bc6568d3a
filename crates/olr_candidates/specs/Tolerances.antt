-- How far a line of the map may differ from its point, and a route from its leg. The numbers and
-- their ranges are this project's choice.
use Rattle.std.specs.Prelude.{ℕ, ◌<◌, ◌≤◌, List, [], ◌∷◌, codes}
use Rattle.olr_candidates.specs.declared.tolerances.Tolerance.{Tolerance}
use Rattle.olr_candidates.specs.declared.tolerances.Tolerance.TheVariants.{Radius, Bearing, Class, Lowest, Percent, Slack}

-- the text of a name, as in the option that gives its value
abbrev pub tolerance_name : Tolerance → List ℕ
tolerance_name Radius = codes "radius"
tolerance_name Bearing = codes "bearing"
tolerance_name Class = codes "class"
tolerance_name Lowest = codes "lowest"
tolerance_name Percent = codes "percent"
tolerance_name Slack = codes "slack"

-- the least value of each: the radius in metres, the bearing in sectors, classes in steps, the
-- percent, the slack in decimetres
abbrev pub least_of : Tolerance → ℕ
least_of Radius = 1
least_of other = 0

-- and the greatest
abbrev pub greatest_of : Tolerance → ℕ
greatest_of Radius = 1000
greatest_of Bearing = 16
greatest_of Class = 7
greatest_of Lowest = 7
greatest_of Percent = 100
greatest_of Slack = 10000

-- and the value where none is given
abbrev pub default_of : Tolerance → ℕ
default_of Radius = 100
default_of Bearing = 4
default_of Class = 7
default_of Lowest = 0
default_of Percent = 30
default_of Slack = 300

-- a value within its range
pub record IsTolerance (name : Tolerance) (value : ℕ) : Type 0 where
  pub least : least_of name ≤ value
  pub greatest : value ≤ greatest_of name

-- the order in which they are tested
abbrev pub order_of : Tolerance → ℕ
order_of Radius = 0
order_of Bearing = 1
order_of Class = 2
order_of Lowest = 3
order_of Percent = 4
order_of Slack = 5

-- all names, in this order
abbrev pub names : List Tolerance
names = Radius ∷ Bearing ∷ Class ∷ Lowest ∷ Percent ∷ Slack ∷ []

-- six numbers by their names
abbrev pub by_name : ℕ → ℕ → ℕ → ℕ → ℕ → ℕ → Tolerance → ℕ
by_name radius bearing class lowest percent slack Radius = radius
by_name radius bearing class lowest percent slack Bearing = bearing
by_name radius bearing class lowest percent slack Class = class
by_name radius bearing class lowest percent slack Lowest = lowest
by_name radius bearing class lowest percent slack Percent = percent
by_name radius bearing class lowest percent slack Slack = slack

-- the first of them that is out of range
pub record IsFirstOutOfRange (value_of : Tolerance → ℕ) (name : Tolerance) : Type 0 where
  pub beyond : IsTolerance name (value_of name) → ⊥
  pub before : (other : Tolerance) → order_of other < order_of name → IsTolerance other (value_of other)
