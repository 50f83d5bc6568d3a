use Rattle.std.proofs.Common.{length}
use Rattle.olr_detail.proofs.cost.+cost_of_ends.Given as goal

abbrev pub decreases-cost_of_ends : goal.decreases-cost_of_ends
decreases-cost_of_ends l = length l.candidates.now
