use Rattle.std.proofs.Common.{length}
use Rattle.olr_confidence.proofs.reasons.+point_beside.Given as goal

abbrev pub decreases-point_beside : goal.decreases-point_beside
decreases-point_beside l = length l.points.now
