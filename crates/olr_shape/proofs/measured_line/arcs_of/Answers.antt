use Rattle.std.proofs.Common.{◌≡◌, ◌+◌, ◌^◌, ◌*◌, ◌<◌, ◌≤◌, length, pos, arith}
use Rattle.olr_metric.specs.Polyline.{arc_at}
use Rattle.olr_shape.proofs.Arcs.{all_arcs, arc_more, one_arc_more}
use Rattle.olr_shape.proofs.measured_line.arcs_of.Goals as goal

pub loop-start-preserved : goal.loop-start-preserved
loop-start-preserved c =
    let spots = c.args.polyline.now in
    let within : c.loop-start.start + 1 < length spots = omega arith in
    let small : c.loop-start.arc ≤ 66 * 2 ^ 35 = omega arith in
    let is : c.loop-start.arc + c.distance-arc.result ≡ arc_at spots (c.loop-start.start + 1) =
    omega (arith, arc_more spots c.loop-start.start (record { x = pos 0; y = pos 0 }) within) in
    record {
      arcs = rw c.push.ensures.items (one_arc_more spots _ _ _ c.loop-start.invariant.arcs
          c.loop-start.invariant.arc small);
      arc = is;
      at_most = omega arith;
    }

pub returns : goal.returns
returns c =
    let spots = c.args.polyline.now in
    let small : c.loop-start.arc ≤ 66 * 2 ^ 35 = omega arith in
    let all : c.loop-start.start + 1 ≡ length spots = omega arith in
    rw c.push-2.ensures.items
    (all_arcs c.distances.ensures.zero spots _ _ c.requires (one_arc_more spots _ _ _
    c.loop-start.invariant.arcs c.loop-start.invariant.arc small) all)
