use Rattle.olr_keys.proofs.NextKeys.{member_decides}
use Rattle.olr_keys.proofs.totals.TotalsFinderFinder.check.Goals as goal

pub returns : goal.returns
returns c = member_decides (cc) c.is_key.ensures
