use Rattle.olr_metric.proofs.Common.{◌≡◌, subst, Spot, distance}
use Rattle.olr_metric.proofs.SpotDistances.{distance_zero, distance_self, distance_turned}
use Rattle.olr_metric.proofs.laws.distances.Goals as goal

pub returns-clause-zero : goal.returns-clause-zero
returns-clause-zero c a b =
    (distance_zero a b, λ same. subst (λ (s : Spot). distance a s ≡ 0) same (distance_self a))

pub returns-clause-symmetric : goal.returns-clause-symmetric
returns-clause-symmetric c = distance_turned
