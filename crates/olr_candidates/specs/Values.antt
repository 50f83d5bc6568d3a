-- The values of tolerances, by their names.
use Rattle.std.specs.Prelude.{◌≡◌, ◌≢◌, ℕ, List, [], ◌∷◌, map, decimal}
use Rattle.std.specs.List.{join_with_byte}
use Rattle.olr_candidates.specs.Tolerances.{by_name, order_of}
use Rattle.olr_candidates.specs.declared.tolerances.Tolerance.{Tolerance}
use Rattle.olr_candidates.specs.declared.tolerances.Tolerances.{Tolerances}

-- the value of the tolerance of a name
abbrev pub value_of : Tolerances → Tolerance → ℕ
value_of tolerances name = by_name tolerances.radius tolerances.bearing tolerances.class
    tolerances.lowest tolerances.percent tolerances.slack name

-- one tolerance has this value, and the others are as given
pub record IsChanged (name : Tolerance) (value : ℕ) (given changed : Tolerances) : Type 0 where
  pub changed_is : value_of changed name ≡ value
  pub others : (other : Tolerance) → order_of other ≢ order_of name
      → value_of changed other ≡ value_of given other

-- the numbers that a text has for tolerances
abbrev pub numbers : Tolerances → List ℕ
numbers tolerances = tolerances.radius ∷ tolerances.bearing ∷ tolerances.class
    ∷ tolerances.lowest ∷ tolerances.percent ∷ tolerances.slack ∷ []

-- that text: the numbers in decimal, a space between each two neighbours
abbrev pub tolerances_text : Tolerances → List ℕ
tolerances_text tolerances = join_with_byte 32 (map decimal (numbers tolerances))
