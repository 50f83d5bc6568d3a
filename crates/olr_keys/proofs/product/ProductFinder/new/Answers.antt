use Rattle.olr_keys.proofs.Listed.{has_list}
use Rattle.olr_keys.proofs.product.ProductFinder.new.Goals as goal

pub returns : goal.returns
returns c = has_list _
