use Rattle.std.proofs.Common.{length}
use Rattle.olr_keys.proofs.before.+are_before.Given as goal

-- proposed from what the function passes where it calls itself
abbrev pub decreases-are_before : goal.decreases-are_before
decreases-are_before l = length l.ranks.now
