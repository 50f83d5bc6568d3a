use Rattle.std.proofs.Common.{length}
use Rattle.olr_confidence.proofs.reasons.+farthest_end.Given as goal

abbrev pub decreases-farthest_end : goal.decreases-farthest_end
decreases-farthest_end l = length l.points.now
