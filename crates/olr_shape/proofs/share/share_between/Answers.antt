use Rattle.std.proofs.Common.{w32}
use Rattle.std.proofs.lemmas.Int.{to_z-of_z}
use Rattle.olr_shape.proofs.Shares.{share_lies, share_near, sum_is}
use Rattle.olr_shape.proofs.share.share_between.Goals as goal

pub overflow_cast-result : goal.overflow_cast-result
overflow_cast-result c =
    let is = sum_is c.args.p c.args.q _ _ _ c.args.part c.args.whole c.ranges.p c.ranges.q
    c.from.ensures c.difference.ensures.value c.nearest_share.ensures c.requires.part
    c.requires.positive in
    rw is (share_near c.args.p c.args.q _ _ c.ranges.p c.ranges.q c.requires.part
    c.requires.positive)

pub returns-clause-share : goal.returns-clause-share
returns-clause-share c =
    let is = sum_is c.args.p c.args.q _ _ _ c.args.part c.args.whole c.ranges.p c.ranges.q
    c.from.ensures c.difference.ensures.value c.nearest_share.ensures c.requires.part
    c.requires.positive in
    rw is (to_z-of_z w32 _ (share_near c.args.p c.args.q _ _ c.ranges.p c.ranges.q
    c.requires.part c.requires.positive))

pub returns-clause-between : goal.returns-clause-between
returns-clause-between c =
    rw (returns-clause-share c)
    (share_lies c.args.p c.args.q _ _ c.requires.part c.requires.positive)
