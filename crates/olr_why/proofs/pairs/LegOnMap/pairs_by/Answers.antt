use Rattle.olr_why.proofs.Common.{no_candidate}
use Rattle.olr_why.proofs.Lists.{one_more_element}
use Rattle.olr_why.proofs.PairLists.{no_pair, pair_at, read_at}
use Rattle.olr_why.proofs.pairs.LegOnMap.pairs_by.Goals as goal

pub loop-index-preserved : goal.loop-index-preserved
loop-index-preserved c =
    one_more_element c.loop-index.invariant (pair_at c.args.self.now c.loop-index.index no_candidate
    (c.pair_under.ensures _ _
    (read_at c.args.self.now c.loop-index.index no_candidate no_pair c.loop-index-test.true
    c.requires.pairs))) c.in_ok-push.ensures.items
