use Rattle.std.proofs.Common.{length}
use Rattle.olr_confidence.proofs.reasons.+point_away.Given as goal

abbrev pub decreases-point_away : goal.decreases-point_away
decreases-point_away l = length l.points.now
