use Rattle.olr_metric.proofs.Common.{◌≡◌, ◌*◌, ◌≤◌, ◌^◌, arc_at}
use Rattle.olr_metric.proofs.polyline.arc_to.Given as goal

abbrev pub invariant-loop-end : goal.invariant-loop-end
invariant-loop-end l = (l.arc ≡ arc_at l.fn.spots l.end) × (l.arc ≤ l.end * 2 ^ 35)
