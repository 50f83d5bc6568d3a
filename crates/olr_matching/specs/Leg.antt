-- The leg from a point of a reference to the next one: which lengths it admits, and with which
-- penalty. (Class limit and interval come from the attributes of the path to the next point in the
-- white paper; the tolerances and the penalty are this project's choice.) Lengths are in
-- decimetres.
use Rattle.std.specs.Prelude.{ℕ, ◌+◌, ◌-◌, ◌*◌, ◌/◌, ◌≤◌, min, Option, MatchOption}
use Rattle.olr_matching.specs.Common.{Next, Place, RoadMap, Tolerances}
use Rattle.olr_route.specs.Least.{IsLeastLength}

-- the class limit of the lines that a route may drive: the lowest class of the path and the
-- tolerance, at most 7
abbrev pub class_limit : Tolerances → Next → ℕ
class_limit tolerances next = min 7 (next.lowest + tolerances.lowest)

-- ---- lengths

-- the least length in the distance interval of the path
abbrev pub interval_start : Next → ℕ
interval_start next = 586 * next.interval

-- the greatest length in it
abbrev pub interval_end : Next → ℕ
interval_end next = 586 * (next.interval + 1) - 1

-- the least length that the leg admits: each end of the interval is widened by a percentage of its
-- own and then by the slack; not below 0
abbrev pub least_admitted : Tolerances → Next → ℕ
least_admitted tolerances next =
    586 * next.interval * (100 - tolerances.percent) / 100 - tolerances.slack

-- the greatest length that it admits
abbrev pub greatest_admitted : Tolerances → Next → ℕ
greatest_admitted tolerances next =
    586 * (next.interval + 1) * (100 + tolerances.percent) / 100 + tolerances.slack

-- ---- the penalty

-- how far a length lies below the interval or above it, 0 within it
abbrev pub miss : Next → ℕ → ℕ
miss next length = (interval_start next - length) + (length - interval_end next)

-- the penalty of a leg of this length: a tenth of the miss, rounded down, at most 100
abbrev pub leg_penalty : Next → ℕ → ℕ
leg_penalty next length = min 100 (miss next length / 10)

-- ---- two candidates

-- The leg admits two places, and this is its length: the least length from one to the other under
-- the class limit lies in the widened interval, whose two ends belong to it. A longer walk doesn't
-- count, whatever its length.
pub record IsAdmitted (road : RoadMap) (tolerances : Tolerances) (next : Next) (from to : Place)
    (length : ℕ) : Type 0 where
  pub is_least : IsLeastLength road (class_limit tolerances next) from to length
  pub at_least : least_admitted tolerances next ≤ length
  pub at_most : length ≤ greatest_admitted tolerances next

-- the length that a leg admits two places with, or none where it doesn't admit them
abbrev pub IsAdmittedLength : RoadMap → Tolerances → Next → Place → Place → Option ℕ → Type 0
IsAdmittedLength road tolerances next from to answer = MatchOption answer
    ((length : ℕ) → IsAdmitted road tolerances next from to length → ⊥)
    (IsAdmitted road tolerances next from to)
