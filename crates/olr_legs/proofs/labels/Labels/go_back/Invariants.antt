use Rattle.std.proofs.Common.{◌+◌, ◌≤◌, heap_len}
use Rattle.olr_legs.specs.Avoiding.{most_turns}
use Rattle.olr_legs.proofs.GoingBack.{IsGoingBack}
use Rattle.olr_legs.proofs.labels.Labels.go_back.Given as goal

-- the lines so far were tried
abbrev pub invariant-loop-before : goal.invariant-loop-before
invariant-loop-before l = record {
  going : IsGoingBack l.search l.line l.length l.behind l.lines l.before-index l.fn.self l.self;
  turns : l.turns ≤ most_turns;
  more : l.fn.turns ≤ l.turns;
  waiting : heap_len l.self.waiting + l.fn.turns ≤ heap_len l.fn.self.waiting + l.turns;
}
