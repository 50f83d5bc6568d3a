use Rattle.olr_candidates.proofs.NearestLines.{nearest_in_order}
use Rattle.olr_candidates.proofs.near_laws.order_of_nearest.Goals as goal

pub returns : goal.returns
returns c = nearest_in_order
