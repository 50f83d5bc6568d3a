use Rattle.olr_why.proofs.Common.{IsNarrower, narrowed}
use Rattle.olr_why.proofs.OfNames.{all_of_them, not_lowest, one_more}
use Rattle.olr_why.proofs.remedies.all_narrower.Goals as goal

pub loop-name-init : goal.loop-name-init
loop-name-init c = rw c.new-remedies.ensures.items (λ rest are. are)

pub narrower-requires : goal.narrower-requires
narrower-requires c = not_lowest c.loop-name.name-index _ c.loop-name-test.true

pub loop-name-preserved : goal.loop-name-preserved
loop-name-preserved c = rw c.in_ok-push_if.ensures (one_more
    (IsNarrower c.args.on.now.map.now c.args.on.now.tolerances
    c.args.on.now.reference.now) narrowed _ _ _ _ c.loop-name-test.true
    c.in_ok-remedy.ensures c.loop-name.invariant)

pub returns : goal.returns
returns c = all_of_them
    (IsNarrower c.args.on.now.map.now c.args.on.now.tolerances
    c.args.on.now.reference.now) narrowed _ _ c.loop-name-test.false c.loop-name.invariant
