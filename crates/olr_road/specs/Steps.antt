-- What a search needs of a line: which it is, where it ends, how long it is, and its class.
use Rattle.std.specs.Prelude.{◌≡◌, ℕ, List, Some, map, option_map, slice_get}
use Rattle.olr_road.specs.declared.step.Step.{Step}
use Rattle.olr_road.specs.RoadMap.{RoadLine}

-- the step of a line: its rank, that of the node at which it ends, its length in decimetres and its
-- class
abbrev pub step_of : ℕ → RoadLine → Step
step_of rank line = record { line = rank; to = line.to; length = line.length; class = line.class }

-- this is the step of one of these lines
abbrev pub IsStepOf : List RoadLine → Step → Type 0
IsStepOf lines step = option_map (step_of step.line) (slice_get lines step.line) ≡ Some step

-- the ranks of the lines of steps
abbrev pub line_ranks : List Step → List ℕ
line_ranks steps = map (λ (step : Step). step.line) steps
