use Rattle.olr_metric.proofs.Common.{◌≡◌, ◌*◌, ◌≤◌, ◌^◌, arc_at}
use Rattle.olr_metric.proofs.Alongs.{AreBefore}
use Rattle.olr_metric.proofs.polyline.segment_at.Given as goal

-- every segment so far ends before s
abbrev pub invariant-loop-segment : goal.invariant-loop-segment
invariant-loop-segment l =
    (l.start ≡ arc_at l.fn.spots l.segment) × (l.start ≤ l.segment * 2 ^ 35) × (l.start ≤ l.fn.s)
    × AreBefore l.fn.spots l.fn.s l.segment
