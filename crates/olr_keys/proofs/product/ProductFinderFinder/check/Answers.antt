use Rattle.std.proofs.Common.{refl}
use Rattle.olr_keys.proofs.NextKeys.{member_decides}
use Rattle.olr_keys.proofs.product.ProductFinderFinder.check.Goals as goal

pub returns : goal.returns
returns c = member_decides refl c.is_key.ensures
