use Rattle.std.proofs.Common.{arith}
use Rattle.olr_legs.proofs.Gains.{is_shorter, none_at_all, none_up_to}
use Rattle.olr_legs.proofs.shorter.first_shorter.Goals as goal

pub returns-in_default : goal.returns-in_default
returns-in_default c = λ class by above at_most.
    none_at_all _ _ _ _ _ c.least_gain.ensures c.in_default.ensures class by

pub loop-class-init : goal.loop-class-init
loop-class-init c = λ class by above below. absurd (omega arith)

pub returns-in-Some-2 : goal.returns-in-Some-2
returns-in-Some-2 c =
    let found = rw c.in-Some-2.is at c.in_ok-least.ensures in (
      omega arith,
      omega arith,
      is_shorter _ _ _ _ _ c.least_gain.ensures c.in-Some.most c.loop-class.class
          (omega (arith, c.in-Some.ensures)) _ found.0 found.1,
      c.loop-class.invariant,
    )

pub loop-class-preserved : goal.loop-class-preserved
loop-class-preserved c =
    let none = rw c.in_default-2.is at c.in_ok-least.ensures in
    none_up_to _ _ _ _ _ c.least_gain.ensures c.in-Some.most c.loop-class.class
    (omega (arith, c.in-Some.ensures)) _ c.loop-class.invariant none

pub returns : goal.returns
returns c = λ class by above at_most. c.loop-class.invariant class by above (omega arith)
