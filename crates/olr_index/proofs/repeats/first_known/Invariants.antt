use Rattle.olr_index.proofs.Known.{IsKnown}
use Rattle.olr_index.proofs.repeats.first_known.Given as goal

abbrev pub invariant-loop-place : goal.invariant-loop-place
invariant-loop-place l = IsKnown l.numbers l.place l.known
