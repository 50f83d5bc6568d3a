use Rattle.std.proofs.Common.{length}
use Rattle.olr_confidence.proofs.reasons.+is_longer.Given as goal

abbrev pub decreases-is_longer : goal.decreases-is_longer
decreases-is_longer l = length l.legs.now
