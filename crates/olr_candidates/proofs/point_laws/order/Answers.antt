use Rattle.olr_candidates.proofs.PointLaws.{in_order}
use Rattle.olr_candidates.proofs.point_laws.order.Goals as goal

pub returns : goal.returns
returns c = in_order
