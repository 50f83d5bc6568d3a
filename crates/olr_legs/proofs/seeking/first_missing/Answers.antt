use Rattle.std.proofs.Common.{arith}
use Rattle.olr_legs.proofs.OverStarts.{one_start, too_short}
use Rattle.olr_legs.proofs.seeking.first_missing.Goals as goal

pub returns-then-saturating_sub-lt-LEAST_MISSED : goal.returns-then-saturating_sub-lt-LEAST_MISSED
returns-then-saturating_sub-lt-LEAST_MISSED c = (
  c.requires.turns,
  λ behind missing. absurd
      (too_short c.args.seek c.args.start c.requires.seek (omega arith) behind missing),
)

pub returns : goal.returns
returns c =
    one_start c.args.seek c.args.start c.args.bound c.first_avoiding.new.turns c.deref.result.now
    c.in_ok-sought.sought c.requires.seek
    (rw c.deref.ensures.value c.in_ok-shut.ensures.steps_are)
    (omega arith) c.in_ok-sought.ensures.sought
