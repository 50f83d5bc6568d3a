use Rattle.olr_metric.proofs.Common.{refl, ray}
use Rattle.olr_metric.proofs.BearingTurns.{ray_turned}
use Rattle.olr_metric.proofs.BearingQuarter.{clockwise}
use Rattle.olr_metric.proofs.bearing_laws.rays.Goals as goal

pub returns-clause-north : goal.returns-clause-north
unfolding ray
returns-clause-north c = refl

pub returns-clause-clockwise : goal.returns-clause-clockwise
returns-clause-clockwise c = clockwise

pub returns-clause-quarter : goal.returns-clause-quarter
returns-clause-quarter c = ray_turned
