use Rattle.olr_metric.proofs.Common.{◌≤◌, ◌*◌, pos, arith, ltb-false}
use Rattle.olr_metric.proofs.Nearests.{no_nearer_read}
use Rattle.olr_metric.proofs.polyline.may_be_nearer.Goals as goal

pub returns : goal.returns
returns c isnt a b start end =
    let low : c.args.least * c.args.least ≤ c.square_outside.result =
    omega (arith, ltb-false c.square_outside.result c.squared.result isnt) in
    no_nearer_read _ _ c.args.segment (record { x = pos 0; y = pos 0 }) c.args.least (omega arith) a
    b start end
