use Rattle.olr_road.proofs.Common.{Position, Entry, rules, ◌≡◌, ℕ, min, max, List, get_or, sym, arith, take_all, All-more, All-same, All-weaker, get_or_from_slice_get, IsBetween, StartsBetween, position_of}
use Rattle.olr_road.proofs.goals.bounds_of.Goals as goal

module _ (low high start lesser greater : Position)
    (low_north : lesser.north ≡ min low.north start.north)
    (low_east : lesser.east ≡ min low.east start.east)
    (high_north : greater.north ≡ max high.north start.north)
    (high_east : greater.east ≡ max high.east start.east) where
  wider : (position : Position) → IsBetween low high position → IsBetween lesser greater position
  wider position is = search rules

  here : IsBetween lesser greater start
  here = search rules

starts_between : (entries : List Entry) (positions : List Position) (low high start : Position)
    (rank : ℕ) (other : Entry)
    → start ≡ position_of positions (get_or entries rank other).line.from → IsBetween low high start
    → StartsBetween entries positions low high rank
starts_between entries positions low high start rank other is between entry at =
    rw (← (get_or_from_slice_get entries rank _ other at)) (rw (← is) between)

pub loop-rank-preserved : goal.loop-rank-preserved
loop-rank-preserved c =
    let low = c.lesser-low.result in
    let high = c.greater-high.result in
    let start = c.position_of-start.result in
    let New = StartsBetween c.args.entries.now c.args.positions.now low high in
    let lesser = c.lesser-low.ensures in
    let greater = c.greater-high.ensures in
    All-more New _ _ 0 c.loop-rank-test.true
    (All-weaker (StartsBetween c.args.entries.now c.args.positions.now c.loop-rank.low
    c.loop-rank.high) New (λ rank is entry at. wider _ _ _ low high lesser.north lesser.east
    greater.north greater.east _ (is entry at)) _ c.loop-rank.invariant)
    (starts_between c.args.entries.now _ low high start
    (get_or c.args.lines.now c.loop-rank.rank-index 0) _ c.position_of-start.ensures
    (here c.loop-rank.low c.loop-rank.high start low high lesser.north lesser.east greater.north
    greater.east))

pub returns : goal.returns
returns c = All-same (StartsBetween c.args.entries.now c.args.positions.now c.loop-rank.low
    c.loop-rank.high) _ _ (sym (take_all c.loop-rank.rank-index c.args.lines.now (omega arith)))
    c.loop-rank.invariant
