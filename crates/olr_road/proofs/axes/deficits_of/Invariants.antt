use Rattle.olr_road.proofs.Common.{◌≡◌, ◌*◌, ◌^◌, ◌≤◌, take, sum_by, deficit_of, north_of, east_of}
use Rattle.olr_road.proofs.axes.deficits_of.Given as goal

-- the sums over the lines so far
abbrev pub invariant-loop-entry : goal.invariant-loop-entry
invariant-loop-entry l = record {
  north : l.north ≡ sum_by (deficit_of (north_of l.positions)) (take l.entry-index l.entries);
  east : l.east ≡ sum_by (deficit_of (east_of l.positions)) (take l.entry-index l.entries);
  north_at_most : l.north ≤ 2 ^ 32 * l.entry-index;
  east_at_most : l.east ≤ 2 ^ 32 * l.entry-index;
}
