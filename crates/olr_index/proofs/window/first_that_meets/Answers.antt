use Rattle.olr_index.proofs.Common.{◌≡◌, false, All-more, meets, BoundingBox}
use Rattle.olr_index.proofs.Blocks.{no_bounding_box}
use Rattle.olr_index.proofs.window.first_that_meets.Goals as goal

pub loop-index-preserved : goal.loop-index-preserved
loop-index-preserved c =
    All-more (λ (bounding_box : BoundingBox). meets c.args.window.now bounding_box ≡ false) c.args.bounding_boxes.now
    c.loop-index.index no_bounding_box c.loop-index-test.true c.loop-index.invariant (cc)
