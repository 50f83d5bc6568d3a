use Rattle.olr_road.proofs.Common.{Degrees, lines_in, IsStepOf, line_ranks, ◌≡◌, List, take, All}
use Rattle.olr_road.proofs.step.steps_of.Given as goal

-- the steps of the lines so far
abbrev pub invariant-loop-rank : goal.invariant-loop-rank
invariant-loop-rank l = record {
  lines : line_ranks l.steps.items ≡ take l.rank-index l.lines;
  steps : (points : List Degrees) → All (IsStepOf (lines_in points l.entries)) l.steps.items;
}
