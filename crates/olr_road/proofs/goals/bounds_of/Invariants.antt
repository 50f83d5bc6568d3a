use Rattle.olr_road.proofs.Common.{take, All, StartsBetween}
use Rattle.olr_road.proofs.goals.bounds_of.Given as goal

-- the bounds of the starts so far
abbrev pub invariant-loop-rank : goal.invariant-loop-rank
invariant-loop-rank l = All (StartsBetween l.entries l.positions l.low l.high)
    (take l.rank-index l.lines)
