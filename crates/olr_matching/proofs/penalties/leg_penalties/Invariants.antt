use Rattle.olr_matching.proofs.Common.{◌≡◌, take, leg_penalties}
use Rattle.olr_matching.proofs.penalties.leg_penalties.Given as goal

-- the penalties of the lengths so far
abbrev pub invariant-loop-length : goal.invariant-loop-length
invariant-loop-length l = l.penalties.items ≡ leg_penalties l.next (take l.length-index l.lengths)
