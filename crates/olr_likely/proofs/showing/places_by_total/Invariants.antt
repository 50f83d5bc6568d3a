use Rattle.std.proofs.Common.{◌≡◌, ◌++◌, length, map}
use Rattle.std.specs.Vec.Iter.{into_iter_items, into_iter_len}
use Rattle.olr_likely.specs.Showing.{shown_by_total}
use Rattle.olr_likely.proofs.showing.places_by_total.Given as goal

-- those so far are shown, and the others are left
abbrev pub invariant-loop-opener : goal.invariant-loop-opener
invariant-loop-opener l = record {
  left : l.yielded ++ into_iter_items l.opener-iterator ≡ into_iter_items l.initial.opener-iterator;
  so_far : l.shown.items ≡ map shown_by_total l.yielded;
  count : into_iter_len l.opener-iterator ≡ length (into_iter_items l.opener-iterator);
}
