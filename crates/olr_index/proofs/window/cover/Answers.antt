use Rattle.olr_index.proofs.Spans.{cover_more}
use Rattle.olr_index.proofs.window.cover.Goals as goal

pub loop-line-preserved : goal.loop-line-preserved
loop-line-preserved c = cover_more _ _ _ _ _ c.loop-line-test.true
    c.joined-bounding_box.ensures.first c.joined-bounding_box.ensures.second c.loop-line.invariant
