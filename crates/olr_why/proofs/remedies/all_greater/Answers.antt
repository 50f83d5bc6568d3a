use Rattle.olr_why.proofs.Common.{IsWider, by_trust}
use Rattle.olr_why.proofs.OfNames.{all_of_them, one_more}
use Rattle.olr_why.proofs.remedies.all_greater.Goals as goal

pub loop-name-init : goal.loop-name-init
loop-name-init c = rw c.new-remedies.ensures.items (λ rest are. are)

pub loop-name-preserved : goal.loop-name-preserved
loop-name-preserved c = rw c.in_ok-push_if.ensures (one_more
    (IsWider c.args.on.now.map.now c.args.on.now.tolerances
    c.args.on.now.reference.now) by_trust _ _ _ _ c.loop-name-test.true
    c.in_ok-remedy.ensures c.loop-name.invariant)

pub returns : goal.returns
returns c = all_of_them
    (IsWider c.args.on.now.map.now c.args.on.now.tolerances
    c.args.on.now.reference.now) by_trust _ _ c.loop-name-test.false c.loop-name.invariant
