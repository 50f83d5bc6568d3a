use Rattle.olr_binary.proofs.Common.{◌≡◌, ℕ, ◌-◌, ◌<◌, length, Some, slice_get, IsInRange, Point, place_of, IsPoint}
use Rattle.olr_binary.proofs.attributes.read_points.Given as goal

abbrev pub invariant-loop-index : goal.invariant-loop-index
invariant-loop-index l = record {
  count_so_far : length l.points.items ≡ l.index;
  place : l.place ≡ place_of l.bytes l.initial.place (l.index - 1);
  passed : (j : ℕ) → j < l.index → IsInRange (place_of l.bytes l.initial.place j);
  each : (i : ℕ) (point : Point) → slice_get l.points.items i ≡ Some point
      → IsPoint l.bytes l.initial.place l.count i point;
}
