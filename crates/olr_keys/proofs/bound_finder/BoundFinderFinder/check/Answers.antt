use Rattle.olr_keys.proofs.NextKeys.{member_decides}
use Rattle.olr_keys.proofs.bound_finder.BoundFinderFinder.check.Goals as goal

pub returns : goal.returns
returns c = member_decides c.table.ensures.table c.is_key.ensures
