use Rattle.olr_report.proofs.Common.{length, ap, refl, arith, take_all, All-more, IsMeasured}
use Rattle.olr_report.proofs.conditions.are_legs_of.Goals as goal

pub loop-leg-preserved : goal.loop-leg-preserved
loop-leg-preserved c =
    let leg = c.leg-item.result in
    All-more IsMeasured c.args.legs.now c.loop-leg.leg-index leg c.loop-leg-test.true
    c.loop-leg.invariant (rw (← c.leg-item.is) (c.is_measured.ensures.0 cc))

pub returns : goal.returns
returns c = (
  λ _. record {
    count = omega (arith, ap length c.points.ensures);
    measured = rw (← (take_all c.loop-leg.leg-index c.args.legs.now c.loop-leg-test.false))
        c.loop-leg.invariant;
    forwards = c.are_forwards.ensures.0 cc;
  },
  λ _. refl,
)
