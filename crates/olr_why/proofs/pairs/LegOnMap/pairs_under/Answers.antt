use Rattle.olr_why.proofs.PairLists.{all_answered}
use Rattle.olr_why.proofs.pairs.LegOnMap.pairs_under.Goals as goal

pub returns-then-are_answered : goal.returns-then-are_answered
returns-then-are_answered c =
    all_answered c.args.self.now (rw (c.deref.ensures.value, c.greatest_admitted.ensures) at
    (c.are_answered.ensures.0 c.if-are_answered.true)) c.requires.pairs
