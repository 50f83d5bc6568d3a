use Rattle.std.proofs.Common.{length}
use Rattle.olr_confidence.proofs.terms_of_detail.+most_missed.Given as goal

abbrev pub decreases-most_missed : goal.decreases-most_missed
decreases-most_missed l = length l.legs.now
