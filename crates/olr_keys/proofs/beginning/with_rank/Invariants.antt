use Rattle.std.proofs.Common.{◌≡◌, take}
use Rattle.olr_keys.proofs.beginning.with_rank.Given as goal

abbrev pub invariant-loop-other : goal.invariant-loop-other
invariant-loop-other l = l.longer.items ≡ take l.other-index l.ranks.items
