use Rattle.std.proofs.Common.{length}
use Rattle.olr_confidence.proofs.terms_of_detail.+farthest.Given as goal

abbrev pub decreases-farthest : goal.decreases-farthest
decreases-farthest l = length l.points.now
