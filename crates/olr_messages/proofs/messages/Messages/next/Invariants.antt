use Rattle.olr_messages.proofs.Common.{◌≡◌, [], Contains, left_of}
use Rattle.olr_messages.proofs.Steps.{HasRead}
use Rattle.olr_messages.proofs.messages.Messages.next.Given as goal

-- so much of the line is read, but nothing yet where it is at hand as a whole
abbrev pub invariant-loop-call : goal.invariant-loop-call
invariant-loop-call g l = record {
  none_failed : g.S.Source.failed l.source ≡ g.S.Source.failed l.fn.source;
  has_read : HasRead (left_of l.fn.self (g.S.Source.left l.fn.source)) (g.S.Source.left l.source)
      l.self l._call;
  same_bytes : Contains l.fn.self.at_hand 10 → l.self.at_hand ≡ l.fn.self.at_hand;
  same_front : Contains l.fn.self.at_hand 10 → l.self.front ≡ [];
  same_source : Contains l.fn.self.at_hand 10 → l.source ≡ l.fn.source;
}
