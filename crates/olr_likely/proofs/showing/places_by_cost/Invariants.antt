use Rattle.std.proofs.Common.{◌≡◌, ◌++◌, length, map}
use Rattle.std.specs.Vec.Iter.{into_iter_items, into_iter_len}
use Rattle.olr_likely.specs.Showing.{shown_by_cost}
use Rattle.olr_likely.proofs.showing.places_by_cost.Given as goal

-- those so far are shown, and the others are left
abbrev pub invariant-loop-place : goal.invariant-loop-place
invariant-loop-place l = record {
  left : l.yielded ++ into_iter_items l.place-iterator ≡ into_iter_items l.initial.place-iterator;
  so_far : l.shown.items ≡ map shown_by_cost l.yielded;
  count : into_iter_len l.place-iterator ≡ length (into_iter_items l.place-iterator);
}
