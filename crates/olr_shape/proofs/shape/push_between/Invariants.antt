use Rattle.std.proofs.Common.{◌≡◌, ◌++◌, map}
use Rattle.olr_base.specs.Coordinates.{coordinates_of}
use Rattle.olr_shape.proofs.Between.{first_between}
use Rattle.olr_shape.proofs.shape.push_between.Given as goal

-- those among the points so far
abbrev pub invariant-loop-number : goal.invariant-loop-number
invariant-loop-number l = map coordinates_of l.shape.items
    ≡ map coordinates_of l.initial.shape.items ++ first_between l.line l.from l.to l.number
