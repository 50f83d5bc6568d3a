use Rattle.std.proofs.Common.{refl}
use Rattle.olr_metric.proofs.Feet.{foot_between}
use Rattle.olr_metric.proofs.laws.foot_on_segment.Goals as goal

pub returns-clause-x : goal.returns-clause-x
returns-clause-x c = foot_between _ (λ a b s e. refl)

pub returns-clause-y : goal.returns-clause-y
returns-clause-y c = foot_between _ (λ a b s e. refl)
