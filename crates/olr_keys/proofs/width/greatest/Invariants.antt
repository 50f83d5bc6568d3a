use Rattle.olr_keys.proofs.Common.{◌≡◌, take, greatest}
use Rattle.olr_keys.proofs.width.greatest.Given as goal

abbrev pub invariant-loop-penalty : goal.invariant-loop-penalty
invariant-loop-penalty l = l.most ≡ greatest (take l.penalty-index l.penalties)
