-- What a leg admits.
use Rattle.olr_matching.proofs.Common.{Next, Place, RoadMap, Tolerances, ◌≡◌, ℕ, ◌≤◌, arith, greatest_admitted, IsLeastLength}

-- no leg admits a length of more than 310,032 decimetres
pub greatest_at_most : (tolerances : Tolerances) (next : Next)
    → greatest_admitted tolerances next ≤ 310032
greatest_at_most tolerances next = grind (
  arith,
  tolerances.percent_in_range.greatest,
  tolerances.slack_in_range.greatest,
  next.interval_in_range,
)

-- there is one least length at most
pub one_length : (road : RoadMap) (class : ℕ) (from to : Place) (a b : ℕ)
    → IsLeastLength road class from to a → IsLeastLength road class from to b → a ≡ b
one_length road class from to a b one other =
    omega (arith, one.least other.behind other.is, other.least one.behind one.is)
