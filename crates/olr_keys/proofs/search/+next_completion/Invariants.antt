use Rattle.std.proofs.Common.{length}
use Rattle.olr_keys.proofs.search.+next_completion.Given as goal

abbrev pub decreases-next_completion : goal.decreases-next_completion
decreases-next_completion l = length l.cursor.now
