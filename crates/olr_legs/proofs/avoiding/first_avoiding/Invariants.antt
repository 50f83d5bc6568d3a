use Rattle.std.proofs.Common.{◌+◌, ◌-◌, ◌≤◌, heap_len}
use Rattle.olr_legs.specs.Avoiding.{most_turns}
use Rattle.olr_legs.specs.Labels.{AreSettled, AreSound, HasEnd}
use Rattle.olr_legs.proofs.avoiding.first_avoiding.Given as goal

-- each line with a walk waits or was gone back from
abbrev pub invariant-loop-length : goal.invariant-loop-length
invariant-loop-length l = record {
  sound : AreSound l.search l.labels;
  settled : AreSettled l.search l.labels;
  ends : HasEnd l.search l.labels;
  turns : l.turns ≤ most_turns;
  more : l.fn.turns ≤ l.turns;
}

abbrev pub decreases-loop-length : goal.decreases-loop-length
decreases-loop-length l = heap_len l.labels.waiting + (most_turns - l.turns)
