use Rattle.std.proofs.Common.{◌≡◌, ◌++◌, length}
use Rattle.std.specs.Vec.Iter.{into_iter_items, into_iter_len}
use Rattle.olr_likely.specs.Extending.{AreExtendedPlaces}
use Rattle.olr_likely.proofs.extending.extended_places.Given as goal

-- those so far have more, and the others are left
abbrev pub invariant-loop-place : goal.invariant-loop-place
invariant-loop-place l = record {
  left : l.yielded ++ into_iter_items l.place-iterator ≡ into_iter_items l.initial.place-iterator;
  so_far : AreExtendedPlaces l.more.detailed l.more.chances.now l.map l.layers l.yielded
      l.extended.items;
  count : into_iter_len l.place-iterator ≡ length (into_iter_items l.place-iterator);
}
