use Rattle.std.proofs.Common.{add-one, ap, arith, length, sym}
use Rattle.std.proofs.lemmas.List.{length-map}
use Rattle.olr_base.specs.Coordinates.{coordinates_of}
use Rattle.olr_shape.proofs.Found.{all_passed, found, passed}
use Rattle.olr_shape.proofs.position.spot_at.Goals as goal

pub returns-then-position-arc_of_point : goal.returns-then-position-arc_of_point
returns-then-position-arc_of_point c =
    let line = c.args.line.now in
    let count = length-map c.points.result.now coordinates_of in
    let same = ap length c.points.ensures.points in
    let end = rw add-one at c.arc_of_point.ensures.arc in
    sym (found line.points line.length c.args.at c.loop-segment.segment _ (omega arith)
    c.loop-segment.invariant (omega arith) c.spot_within.ensures)

pub loop-segment-preserved : goal.loop-segment-preserved
loop-segment-preserved c =
    let line = c.args.line.now in
    let count = length-map c.points.result.now coordinates_of in
    let same = ap length c.points.ensures.points in
    let end = rw add-one at c.arc_of_point.ensures.arc in
    rw add-one (passed line.points line.length c.args.at c.loop-segment.segment (omega arith)
    c.loop-segment.invariant (omega arith))

pub returns : goal.returns
returns c =
    let line = c.args.line.now in
    let count = length-map c.points.result.now coordinates_of in
    let same = ap length c.points.ensures.points in
    sym (all_passed line.points line.length c.args.at c.loop-segment.segment (omega arith)
    c.loop-segment.invariant)
