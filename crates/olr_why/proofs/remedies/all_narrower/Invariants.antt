use Rattle.olr_why.proofs.Common.{IsNarrower, narrowed}
use Rattle.olr_why.proofs.OfNames.{AreUpTo}
use Rattle.olr_why.proofs.remedies.all_narrower.Given as goal

abbrev pub invariant-loop-name : goal.invariant-loop-name
invariant-loop-name l = AreUpTo
    (IsNarrower l.on.map.now l.on.tolerances l.on.reference.now) narrowed l.name-index
    l.remedies.items
