use Rattle.olr_map.proofs.Common.{coordinates_of, arith, length-map}
use Rattle.olr_map.proofs.Neighbours.{none_equal}
use Rattle.olr_map.proofs.lines.has_equal_neighbours.Goals as goal

pub returns : goal.returns
returns c = none_equal (omega (arith, length-map c.args.points.now coordinates_of))
    c.loop-next.invariant.1
