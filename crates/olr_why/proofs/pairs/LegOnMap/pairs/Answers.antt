use Rattle.olr_why.proofs.Common.{arith, length-take-le, take_more, no_candidate}
use Rattle.olr_why.proofs.PairLists.{one_more_first}
use Rattle.olr_why.proofs.pairs.LegOnMap.pairs.Goals as goal

pub loop-index-preserved : goal.loop-index-preserved
loop-index-preserved c =
    let firsts = c.args.self.now.firsts.now in
    let index = c.loop-index.index in
    rw (take_more firsts index no_candidate c.loop-index-test.true, c.in_ok-append.ensures.items)
    (one_more_first c.args.self.now _ _ (omega (arith, length-take-le index firsts (omega arith)))
    c.loop-index.invariant c.in_ok-more.ensures)
