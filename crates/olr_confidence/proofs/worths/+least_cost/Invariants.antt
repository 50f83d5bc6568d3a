use Rattle.std.proofs.Common.{length}
use Rattle.olr_confidence.proofs.worths.+least_cost.Given as goal

abbrev pub decreases-least_cost : goal.decreases-least_cost
decreases-least_cost l = length l.places.now
