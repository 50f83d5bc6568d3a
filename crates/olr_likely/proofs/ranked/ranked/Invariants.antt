use Rattle.std.proofs.Common.{◌≡◌, ◌++◌, length}
use Rattle.std.specs.Vec.Iter.{into_iter_items, into_iter_len}
use Rattle.olr_likely.specs.Ranked.{AreRanked}
use Rattle.olr_likely.proofs.ranked.ranked.Given as goal

-- those so far are ranked, and the others are left
abbrev pub invariant-loop-opener : goal.invariant-loop-opener
invariant-loop-opener l = record {
  left : l.yielded ++ into_iter_items l.opener-iterator
      ≡ into_iter_items l.initial.opener-iterator;
  so_far : AreRanked l.map l.yielded l.ranked.items;
  count : into_iter_len l.opener-iterator ≡ length (into_iter_items l.opener-iterator);
}
