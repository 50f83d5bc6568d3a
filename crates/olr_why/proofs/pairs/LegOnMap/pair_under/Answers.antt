use Rattle.std.proofs.Common.{arith}
use Rattle.olr_why.proofs.Lists.{not_both}
use Rattle.olr_why.proofs.PairLengths.{unanswered, less_found, nothing_less, still_answered}
use Rattle.olr_why.proofs.pairs.LegOnMap.pair_under.Goals as goal

pub returns-then-is_answered : goal.returns-then-is_answered
returns-then-is_answered c = λ first second.
    still_answered (rw c.greatest_admitted.ensures at
    (c.is_answered.ensures.0 c.if-is_answered.true))

pub returns-in_default : goal.returns-in_default
returns-in_default c = λ first second.
    nothing_less (unanswered c.args.pair c.is_answered.ensures c.greatest_admitted.ensures
    c.if-is_answered.false)
    (λ length shorter. absurd (omega (
      arith,
      c.requires.limit,
      c.in_default.ensures shorter.least.behind (rw c.requires.class shorter.least.is),
      shorter.least.long,
      shorter.within,
    )))

pub returns-then-not-is_less : goal.returns-then-not-is_less
returns-then-not-is_less c = λ first second.
    nothing_less (unanswered c.args.pair c.is_answered.ensures c.greatest_admitted.ensures
    c.if-is_answered.false)
    (λ length shorter. not_both (c.is_less.ensures.1
    (rw (c.one_least_length.ensures c.args.self.now.map.now c.args.class c.args.reach.now.from
    c.args.to c.in-Some.length length (rw c.requires.class at c.in-Some.ensures.0) shorter.least)
    shorter.less)) c.if-not-is_less.true)

pub returns : goal.returns
returns c = λ first second.
    less_found (unanswered c.args.pair c.is_answered.ensures c.greatest_admitted.ensures
    c.if-is_answered.false) c.requires.above
    (record {
      least = rw c.requires.class at c.in-Some.ensures.0;
      within = omega (arith, c.requires.limit, c.in-Some.ensures.1);
      less = c.is_less.ensures.0 c.if-not-is_less.false;
    })
