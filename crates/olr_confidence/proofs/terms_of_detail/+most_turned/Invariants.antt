use Rattle.std.proofs.Common.{length}
use Rattle.olr_confidence.proofs.terms_of_detail.+most_turned.Given as goal

abbrev pub decreases-most_turned : goal.decreases-most_turned
decreases-most_turned l = length l.points.now
