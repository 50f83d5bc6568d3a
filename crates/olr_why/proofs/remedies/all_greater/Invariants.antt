use Rattle.olr_why.proofs.Common.{IsWider, by_trust}
use Rattle.olr_why.proofs.OfNames.{AreUpTo}
use Rattle.olr_why.proofs.remedies.all_greater.Given as goal

abbrev pub invariant-loop-name : goal.invariant-loop-name
invariant-loop-name l = AreUpTo
    (IsWider l.on.map.now l.on.tolerances l.on.reference.now) by_trust l.name-index l.remedies.items
