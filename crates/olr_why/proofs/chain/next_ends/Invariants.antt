use Rattle.std.proofs.Common.{◌≤◌, length}
use Rattle.olr_why.proofs.Ends.{IsJoinedToOne}
use Rattle.olr_why.proofs.Lists.{AreBelow}
use Rattle.olr_why.proofs.chain.next_ends.Given as goal

abbrev pub invariant-loop-index : goal.invariant-loop-index
invariant-loop-index l = (length l.next.items ≤ l.index)
    × AreBelow (IsJoinedToOne l.layers l.layer l.ends) l.index l.next.items
