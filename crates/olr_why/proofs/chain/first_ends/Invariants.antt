use Rattle.olr_why.proofs.Common.{◌≤◌, length, ⊤}
use Rattle.olr_why.proofs.Lists.{AreBelow}
use Rattle.olr_why.proofs.chain.first_ends.Given as goal

abbrev pub invariant-loop-index : goal.invariant-loop-index
invariant-loop-index l = (length l.ends.items ≤ l.index) × AreBelow (λ _. ⊤) l.index l.ends.items
