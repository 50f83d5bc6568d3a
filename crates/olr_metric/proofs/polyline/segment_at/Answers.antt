use Rattle.olr_metric.proofs.Common.{arith, ◌≡◌, ◌<◌, ◌+◌, length, pos, arc_at}
use Rattle.olr_metric.proofs.Arcs.{arc_more}
use Rattle.olr_metric.proofs.Alongs.{segment_at, one_more_before}
use Rattle.olr_metric.proofs.polyline.segment_at.Goals as goal

pub returns-then-s-end-clause-segment : goal.returns-then-s-end-clause-segment
returns-then-s-end-clause-segment c a b start end = segment_at _ _ _ a b c.loop-segment.invariant.3
    (omega (
      arith,
      arc_more c.args.spots.now c.loop-segment.segment
          (record { x = pos 0; y = pos 0 }) (omega arith),
    )) start end

pub loop-segment-preserved : goal.loop-segment-preserved
loop-segment-preserved c =
    let within : c.loop-segment.segment + 1 < length c.args.spots.now = omega arith in
    let is : c.loop-segment.start + c.distance.result
    ≡ arc_at c.args.spots.now (c.loop-segment.segment + 1) = omega (
      arith,
      arc_more c.args.spots.now c.loop-segment.segment (record { x = pos 0; y = pos 0 }) within,
    ) in (
      is,
      omega arith,
      omega arith,
      one_more_before _ _ _ c.loop-segment.invariant.3 (omega arith),
    )
