-- How matchings are told apart, and how far they are looked at. The numbers and their ranges are
-- this project's choice.
use Rattle.std.specs.Prelude.{ℕ, ◌<◌, ◌≤◌}
use Rattle.olr_places.specs.declared.limits.PlaceLimit.{PlaceLimit}
use Rattle.olr_places.specs.declared.limits.PlaceLimit.TheVariants.{Apart, Look, Most, Within}

-- the least value of each: `apart` in decimetres, `within` in penalty points, `look` in matchings,
-- `most` in places
abbrev pub least_of : PlaceLimit → ℕ
least_of Apart = 0
least_of Within = 0
least_of Look = 1
least_of Most = 1

-- and the greatest
abbrev pub greatest_of : PlaceLimit → ℕ
greatest_of Apart = 1000000
greatest_of Within = 14620
greatest_of Look = 1000000
greatest_of Most = 100

-- a value within its range
pub record IsInRange (number : PlaceLimit) (value : ℕ) : Type 0 where
  pub least : least_of number ≤ value
  pub greatest : value ≤ greatest_of number

-- the order in which they are checked
abbrev pub order_of : PlaceLimit → ℕ
order_of Apart = 0
order_of Within = 1
order_of Look = 2
order_of Most = 3

-- four numbers by their names
abbrev pub by_name : ℕ → ℕ → ℕ → ℕ → PlaceLimit → ℕ
by_name apart within look most Apart = apart
by_name apart within look most Within = within
by_name apart within look most Look = look
by_name apart within look most Most = most

-- the first of them that is out of range
pub record IsFirstOutOfRange (value_of : PlaceLimit → ℕ) (number : PlaceLimit) : Type 0 where
  pub beyond : IsInRange number (value_of number) → ⊥
  pub before : (other : PlaceLimit) → order_of other < order_of number
      → IsInRange other (value_of other)
