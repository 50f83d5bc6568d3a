use Rattle.olr_metric.proofs.Floors.{share_at_most, small_is_wide, small_is, small_fits}
use Rattle.olr_metric.proofs.segment.share.Goals as goal

pub overflow_cast-result : goal.overflow_cast-result
overflow_cast-result c =
    let at_most = share_at_most _ _
    (simp (small_is c.args.displacement c.requires.displacement) at c.long_share.ensures)
    c.requires.displacement c.requires.part c.requires.positive in
    rw (small_is_wide at_most) (small_fits at_most)

pub returns : goal.returns
returns c =
    let is = simp (small_is c.args.displacement c.requires.displacement) at c.long_share.ensures in
    let at_most = share_at_most _ _ is c.requires.displacement c.requires.part
    c.requires.positive in
    rw (small_is_wide at_most, small_is _ at_most) is
