use Rattle.std.proofs.Common.{length}
use Rattle.olr_keys.proofs.ranks.+add_ranks.Given as goal

-- proposed from what the function passes where it calls itself
abbrev pub decreases-add_ranks : goal.decreases-add_ranks
decreases-add_ranks l = length l.text.now
