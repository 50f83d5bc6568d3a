use Rattle.std.proofs.Common.{length}
use Rattle.olr_keys.proofs.matching.+total_from.Given as goal

-- proposed from what the function passes where it calls itself
abbrev pub decreases-total_from : goal.decreases-total_from
decreases-total_from l = length l.ranks.now
