use Rattle.olr_why.proofs.Common.{no_candidate}
use Rattle.olr_why.proofs.Lists.{one_more_element}
use Rattle.olr_why.proofs.PairLists.{pair_at}
use Rattle.olr_why.proofs.pairs.LegOnMap.pairs_under_limit.Goals as goal

pub loop-index-preserved : goal.loop-index-preserved
loop-index-preserved c =
    one_more_element c.loop-index.invariant (pair_at c.args.self.now c.loop-index.index no_candidate
    (rw (← c.in_ok-reach.ensures.asked.1) c.pair_of.ensures)) c.in_ok-push.ensures.items
