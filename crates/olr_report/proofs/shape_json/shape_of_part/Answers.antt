use Rattle.olr_report.proofs.ShapeValues.{drawn_is}
use Rattle.olr_report.proofs.shape_json.shape_of_part.Goals as goal

pub returns : goal.returns
returns c =
    let shape = rw c.deref.ensures.value at c.in_ok-shape.ensures in
    rw c.in-Some.is (drawn_is c.args.map.now c.in-Some.pieces.items c.in_ok-shape.shape.items shape)
