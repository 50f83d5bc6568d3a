use Rattle.std.proofs.Common.{◌≤◌, take}
use Rattle.olr_legs.specs.Avoiding.{most_turns}
use Rattle.olr_legs.specs.Seeking.{IsSoughtOf}
use Rattle.olr_legs.proofs.seeking.first_missing_any.Given as goal

-- what the searches so far came to
abbrev pub invariant-loop-start : goal.invariant-loop-start
invariant-loop-start l = record {
  few : l.turns ≤ most_turns;
  sought : IsSoughtOf l.seek (take l.start-index l.starts) l.bound l.turns l.best;
}
