use Rattle.olr_map.proofs.Common.{coordinates_of, map, ◌≤◌}
use Rattle.olr_map.proofs.Neighbours.{NoneEqualBelow}
use Rattle.olr_map.proofs.lines.has_equal_neighbours.Given as goal

abbrev pub invariant-loop-next : goal.invariant-loop-next
invariant-loop-next l = (1 ≤ l.next) × NoneEqualBelow (map coordinates_of l.fn.points) l.next
