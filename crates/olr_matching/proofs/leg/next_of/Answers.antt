use Rattle.olr_matching.proofs.Pairs.{leads_on_at}
use Rattle.olr_matching.proofs.leg.next_of.Goals as goal

pub returns : goal.returns
returns c = leads_on_at _ _ _ _ _ _ c.requires.1 c.points.ensures c.in-Some.is
