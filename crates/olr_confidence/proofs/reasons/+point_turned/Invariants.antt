use Rattle.std.proofs.Common.{length}
use Rattle.olr_confidence.proofs.reasons.+point_turned.Given as goal

abbrev pub decreases-point_turned : goal.decreases-point_turned
decreases-point_turned l = length l.points.now
