use Rattle.std.proofs.Common.{◌≡◌, ◌*◌, ◌≤◌, ◌^◌}
use Rattle.olr_metric.specs.Polyline.{arc_at}
use Rattle.olr_shape.proofs.Arcs.{AreFirstArcs}
use Rattle.olr_shape.proofs.measured_line.arcs_of.Given as goal

-- the arcs of the spots so far
abbrev pub invariant-loop-start : goal.invariant-loop-start
invariant-loop-start l = record {
  arcs : AreFirstArcs l.fn.polyline l.start l.arcs.items;
  arc : l.arc ≡ arc_at l.fn.polyline l.start;
  at_most : l.arc ≤ l.start * 2 ^ 35;
}
