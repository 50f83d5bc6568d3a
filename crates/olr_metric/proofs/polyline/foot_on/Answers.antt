use Rattle.std.proofs.Common.{pos}
use Rattle.olr_metric.proofs.Nearests.{foot_read}
use Rattle.olr_metric.proofs.polyline.foot_on.Goals as goal

pub returns-clause-foot : goal.returns-clause-foot
returns-clause-foot c = foot_read c.args.spots.now _ c.args.segment _
    (record { x = pos 0; y = pos 0 }) c.foot.ensures.foot
