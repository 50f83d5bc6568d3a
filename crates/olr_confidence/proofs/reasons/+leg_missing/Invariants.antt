use Rattle.std.proofs.Common.{length}
use Rattle.olr_confidence.proofs.reasons.+leg_missing.Given as goal

abbrev pub decreases-leg_missing : goal.decreases-leg_missing
decreases-leg_missing l = length l.legs.now
