use Rattle.olr_metric.proofs.Nearests as nearests
use Rattle.olr_metric.proofs.laws.nearest_within.Goals as goal

pub returns : goal.returns
returns c = nearests.nearest_within
