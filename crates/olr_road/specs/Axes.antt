-- Positions of nodes on two axes, in decimetres northwards and eastwards; by how much lines are
-- shorter than their ends are apart there; and how far nodes are outside spans of the axes. Any
-- positions do.
use Rattle.std.specs.Prelude.{◌≡◌, ℕ, ◌-◌, ◌^◌, ◌≤◌, max, List, map, unwrap_or, Some, slice_get}
use Rattle.std.specs.Int.{abs_diff}
use Rattle.std.specs.List.{sum_by}
use Rattle.olr_road.specs.declared.axes.Position.{Position}
use Rattle.olr_road.specs.declared.axes.Deficits.{Deficits}
use Rattle.olr_road.specs.declared.goals.Span.{Span}
use Rattle.olr_road.specs.declared.line_set.Entry.{Entry}

-- the position of a node; a node without one is where both axes begin
abbrev pub position_of : List Position → ℕ → Position
position_of positions node = unwrap_or (slice_get positions node) (record { north = 0; east = 0 })

-- the position of a node on one axis, and on the other
abbrev pub north_of : List Position → ℕ → ℕ
north_of positions node = (position_of positions node).north

abbrev pub east_of : List Position → ℕ → ℕ
east_of positions node = (position_of positions node).east

-- by how much a line is shorter than its ends are apart on an axis
abbrev pub deficit_of : (ℕ → ℕ) → Entry → ℕ
deficit_of position entry = abs_diff (position entry.line.from) (position entry.line.to) -
    entry.line.length

-- On each axis the sum of the deficits of all lines, which is at most 2^50 decimetres.
pub record AreDeficits (entries : List Entry) (positions : List Position)
    (deficits : Deficits) : Type 0 where
  pub north : deficits.north ≡ sum_by (deficit_of (north_of positions)) entries
  pub east : deficits.east ≡ sum_by (deficit_of (east_of positions)) entries
  pub north_at_most : deficits.north ≤ 2 ^ 50
  pub east_at_most : deficits.east ≤ 2 ^ 50

-- the position is between these two, on each axis
pub record IsBetween (low high position : Position) : Type 0 where
  pub north_low : low.north ≤ position.north
  pub north_high : position.north ≤ high.north
  pub east_low : low.east ≤ position.east
  pub east_high : position.east ≤ high.east

-- between these two a line starts, if there is one of this rank
abbrev pub StartsBetween : List Entry → List Position → Position → Position → ℕ → Type 0
StartsBetween entries positions low high rank =
    (entry : Entry) → slice_get entries rank ≡ Some entry
    → IsBetween low high (position_of positions entry.line.from)

-- how far a position on an axis is outside a span
abbrev pub outside : Span → ℕ → ℕ
outside span position = max (span.low - position) (position - span.high)

-- of each node by how much it is outside the spans, on the axis on which that is more
abbrev pub least_of : List Position → Span → Span → List ℕ
least_of positions north east =
    map (λ (position : Position). max (outside north position.north) (outside east position.east))
    positions
