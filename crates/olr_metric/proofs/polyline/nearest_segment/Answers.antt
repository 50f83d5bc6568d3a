use Rattle.olr_metric.proofs.Common.{arith, ◌≤◌, ◌<◌, ◌∙◌, ap, refl, root}
use Rattle.olr_metric.proofs.Nearests.{gap_of_foot, nearest_next, nearest_still, nearest_of_all}
use Rattle.olr_metric.proofs.Roots.{root_at_least, root_less}
use Rattle.olr_metric.proofs.polyline.nearest_segment.Goals as goal

pub loop-segment-preserved-then-not-may_be_nearer :
    goal.loop-segment-preserved-then-not-may_be_nearer
loop-segment-preserved-then-not-may_be_nearer c = record {
  nearest = nearest_still c.loop-segment.invariant.nearest (c.if-not-may_be_nearer.ensures refl);
  foot = c.loop-segment.invariant.foot;
  distance = c.loop-segment.invariant.distance;
  at_most = c.loop-segment.invariant.at_most;
  in_plane = c.loop-segment.invariant.in_plane;
}

pub loop-segment-preserved-then-square-squared : goal.loop-segment-preserved-then-square-squared
loop-segment-preserved-then-square-squared c =
    let gap = gap_of_foot c.args.spots.now _ c.loop-segment.segment _ _ c.foot_on-found.ensures.foot
    (ap root c.square_distance-square.ensures.square) in
    let no_nearer : c.loop-segment.least ≤ root c.square_distance-square.result =
    root_at_least _ _ (omega arith) in
    record {
      nearest = nearest_still c.loop-segment.invariant.nearest
          (λ a b start end. omega (arith, gap a b start end));
      foot = c.loop-segment.invariant.foot;
      distance = c.loop-segment.invariant.distance;
      at_most = c.loop-segment.invariant.at_most;
      in_plane = c.loop-segment.invariant.in_plane;
    }

pub loop-segment-preserved : goal.loop-segment-preserved
loop-segment-preserved c =
    let gap_is = c.root_of-least.ensures.root ∙ ap root c.square_distance-square.ensures.square in
    let nearer : root c.square_distance-square.result < c.loop-segment.least =
    root_less _ _ (omega arith) in
    record {
      nearest = nearest_next c.loop-segment.invariant.nearest
          (gap_of_foot c.args.spots.now _ c.loop-segment.segment _ _ c.foot_on-found.ensures.foot
          gap_is) (omega arith);
      foot = c.foot_on-found.ensures.foot;
      distance = gap_is;
      at_most = c.root_of-least.ensures.at_most;
      in_plane = c.foot_on-found.ensures.in_plane;
    }

pub returns-clause-nearest : goal.returns-clause-nearest
returns-clause-nearest c a b start end =
    nearest_of_all a b (omega arith) c.loop-segment.invariant.nearest start end
