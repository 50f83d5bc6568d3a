use Rattle.olr_road.proofs.Common.{◌≡◌, length, arith, length-take-le, take_all, bounding_boxes_of}
use Rattle.olr_road.proofs.Windows.{in_order_more, bounding_boxes_more}
use Rattle.olr_road.proofs.Zips.{zip_length}
use Rattle.olr_road.proofs.placed.placed_lines.Goals as goal

pub loop-entry-preserved : goal.loop-entry-preserved
loop-entry-preserved c =
    let inv = c.loop-entry.invariant in
    let long = zip_length _ _ _ inv.bounding_boxes in
    let place : c.loop-entry.rank ≡ length (bounding_boxes_of c.loop-entry.lines.items) =
    omega (arith, length-take-le c.loop-entry.entry-index c.args.entries.now (omega arith)) in
    record {
      rank = cc;
      in_order = in_order_more _ _ _ _ c.in_ok-push.ensures.items place inv.in_order;
      bounding_boxes = bounding_boxes_more _ _ _ _ _ _ _ _ c.loop-entry-test.true
          c.in_ok-push.ensures.items c.bounding_box_of-bounding_box.ensures inv.bounding_boxes;
    }

pub returns-clause-bounding_boxes : goal.returns-clause-bounding_boxes
returns-clause-bounding_boxes c =
    rw (← (take_all c.loop-entry.entry-index c.args.entries.now (omega arith)))
    c.loop-entry.invariant.bounding_boxes
