-- A node from which lines lead to a goal is no farther outside the goals' spans than these lines
-- are long.
use Rattle.olr_road.proofs.Common.{Degrees, Position, Ban, Entry, line_in, RoadMap, RoadLine, road_of, ◌≡◌, ℕ, zero, suc, ◌+◌, ◌-◌, ◌≤◌, List, [], ◌∷◌, map, get_or, Some, inl, ap, sym, ◌∙◌, arith, All, slice_get, slice_index, abs_diff, sum_by, get_or-map, length-map, All-contains, sum-map, slice_get_within, get_or_from_slice_get, AreDeficits, StartsBetween, north_of, east_of, deficit_of, outside, least_of, Joins, AreGoalsOn}
use Rattle.olr_road.specs.declared.axes.Deficits.{Deficits}
use Rattle.olr_road.specs.declared.goals.Span.{Span}
use Rattle.olr_road.specs.declared.node.Node.{Node as NodeByRank}
use Rattle.olr_road.proofs.EndsApart.{climb}
use Rattle.olr_road.proofs.Sets.{entry_at}

-- on which axis ever a node is farther outside, it is so by no more than this
least_at : (positions : List Position) (north east : Span) (node most : ℕ)
    → outside north (north_of positions node) ≤ most → outside east (east_of positions node) ≤ most
    → slice_index (least_of positions north east) node ≤ most
least_at [] north east node most one other = omega arith
least_at (position ∷ positions) north east zero most one other = omega arith
least_at (position ∷ positions) north east (suc node) most one other =
    least_at positions north east node most one other

on_axis : (low high deficits long start node : ℕ) (span : Span) → span.low ≡ low - deficits
    → span.high ≡ high + deficits
    → low ≤ start → start ≤ high → abs_diff start node ≤ long + deficits → outside span node ≤ long
on_axis low high deficits long start node span begins ends above below near = omega arith

module _ (nodes : List NodeByRank) (entries : List Entry) (points : List Degrees) (bans : List Ban)
  where
    abbrev road : RoadMap
    road = road_of nodes entries points bans

    long_enough : (position : ℕ → ℕ) (rank : ℕ) (line : RoadLine)
        → slice_get road.lines rank ≡ Some line
        → abs_diff (position line.from) (position line.to) ≤ line.length
        + get_or (map (deficit_of position) entries) rank 0
    long_enough position rank line is =
        let (entry, at, same) = entry_at points entries rank line is in
        let inside = slice_get_within entries rank entry at in
        let left = get_or-map (deficit_of position) entries rank entry 0 inside
        ∙ ap (deficit_of position) (get_or_from_slice_get entries rank entry entry at) in
        rw (← same) (omega arith)

    -- the ends of lines that join are no farther apart than these are long, with the deficits of
    -- all lines
    near : (position : ℕ → ℕ) (count from to long : ℕ) → Joins road count from to long
        → abs_diff (position to) (position from) ≤ long + sum_by (deficit_of position) entries
    near position count from to long joins =
        let size = length-map entries (deficit_of position)
        ∙ sym (length-map entries (line_in points)) in
        let climbed = climb road position (position from) count from to long 0
        (map (deficit_of position) entries) joins size
        (λ rank line is. inl (long_enough position rank line is)) (omega arith) in
        omega (arith, sum-map (deficit_of position) entries)

    pub goals_on : (positions : List Position) (deficits : Deficits) (low high : Position)
        (lines : List ℕ) (north east : Span) → AreDeficits entries positions deficits
        → All (StartsBetween entries positions low high) lines
        → north.low ≡ low.north - deficits.north → north.high ≡ high.north + deficits.north
        → east.low ≡ low.east - deficits.east → east.high ≡ high.east + deficits.east
        → AreGoalsOn road (record { lines = lines; least = least_of positions north east })
    goals_on positions deficits low high lines north east are between north_low north_high east_low
        east_high target node count long line is_goal is joins =
        let (entry, at, same) = entry_at points entries target line is in
        let from = entry.line.from in
        let start = All-contains (StartsBetween entries positions low high) lines target between
        is_goal entry at in
        let joined : Joins road count node from long
        = rw (ap (λ (l : RoadLine). l.from) same) joins in
        least_at positions north east node long
        (on_axis low.north high.north deficits.north long (north_of positions from)
        (north_of positions node) north north_low north_high start.north_low start.north_high
        (omega (arith, near (north_of positions) count node from long joined)))
        (on_axis low.east high.east deficits.east long (east_of positions from)
        (east_of positions node) east east_low east_high start.east_low start.east_high
        (omega (arith, near (east_of positions) count node from long joined)))
