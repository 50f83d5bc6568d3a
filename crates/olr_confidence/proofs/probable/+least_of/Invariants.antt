use Rattle.std.proofs.Common.{length}
use Rattle.olr_confidence.proofs.probable.+least_of.Given as goal

abbrev pub decreases-least_of : goal.decreases-least_of
decreases-least_of l = length l.numbers.now
