-- Lines as goals of a search, and lengths before which no lines lead to them.
use Rattle.std.specs.Prelude.{◌≡◌, ℕ, zero, suc, ◌+◌, ◌≤◌, List, Some, slice_get, slice_index, Contains}
use Rattle.olr_road.specs.RoadMap.{RoadMap}
use Rattle.olr_road.specs.RoadMap.{RoadLine}

-- So many lines lead from one node to another, each from where the one before it ends, whatever
-- their classes and the bans; this is the sum of their lengths in decimetres.
abbrev pub Joins : RoadMap → ℕ → ℕ → ℕ → ℕ → Type 0
Joins road zero from to length = (from ≡ to) × (length ≡ 0)
Joins road (suc count) from to length = (rank : ℕ) × (line : RoadLine) × (more : ℕ)
    × (slice_get road.lines rank ≡ Some line) × (line.from ≡ from)
    × Joins road count line.to to more × (length ≡ line.length + more)

-- what contracts see of goals: the ranks of their lines, and for each node, by rank, a length in
-- decimetres
pub record GoalLines : Type 0 where
  pub lines : List ℕ
  pub least : List ℕ

-- From no node do lines lead to the start of a goal after less than the length that the goals have
-- for the node.
abbrev pub AreGoalsOn : RoadMap → GoalLines → Type 0
AreGoalsOn road goals = (target node count length : ℕ) (line : RoadLine)
    → Contains goals.lines target → slice_get road.lines target ≡ Some line
    → Joins road count node line.from length → slice_index goals.least node ≤ length
