use Rattle.std.proofs.Common.{length}
use Rattle.olr_confidence.proofs.reasons.+push_heavy.Given as goal

abbrev pub decreases-push_heavy : goal.decreases-push_heavy
decreases-push_heavy l = length l.all.now
