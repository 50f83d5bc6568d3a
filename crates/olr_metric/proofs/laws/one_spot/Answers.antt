use Rattle.olr_metric.proofs.OneSpot.{one_nearest, one_along}
use Rattle.olr_metric.proofs.laws.one_spot.Goals as goal

pub returns-clause-nearest : goal.returns-clause-nearest
returns-clause-nearest c = one_nearest

pub returns-clause-along : goal.returns-clause-along
returns-clause-along c = one_along
