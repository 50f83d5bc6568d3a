-- Laws on closeness. Each is the contract of a public function that does nothing at run time.
use Rattle.std.specs.Prelude.{ℕ, ◌≤◌, ◌↔◌, List, Contains}
use Rattle.olr_route.specs.declared.piece.Piece.{Piece}
use Rattle.olr_report.specs.Steps.{Step, steps_of}
use Rattle.olr_places.specs.Closeness.{Ground, IsClose, line}

-- of two matchings each is close to the other, or none is
abbrev pub IsSymmetric : Type 0
IsSymmetric = (apart : ℕ) (one other : Ground) → IsClose apart one other → IsClose apart other one

-- each matching is close to itself
abbrev pub IsReflexive : Type 0
IsReflexive = (apart : ℕ) (one : Ground) → IsClose apart one one

-- matchings that are close are also close where they may be further apart
abbrev pub CloseStaysClose : Type 0
CloseStaysClose = (less apart : ℕ) (one other : Ground) → less ≤ apart → IsClose less one other
    → IsClose apart one other

-- two matchings of a line that may be 0 apart are close exactly where their outer parts have the
-- same steps
abbrev pub CloseAtZero : Type 0
CloseAtZero = (one other : List Piece) → IsClose 0 (line one) (line other)
    ↔ ((step : Step) → Contains (steps_of one) step ↔ Contains (steps_of other) step)
