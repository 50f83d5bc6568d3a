use Rattle.olr_candidates.specs.declared.near.NearLine.{NearLine}
use Rattle.olr_why.proofs.Common.{PointReason, ◌<◌, All, length, All-push}
use Rattle.olr_why.proofs.Lists.{one_more_element}
use Rattle.olr_why.proofs.explaining.reasons_of_points.Goals as goal

pub loop-index-preserved : goal.loop-index-preserved
loop-index-preserved c =
    let OnMap : PointReason → Type 0 =
    λ point. All (λ (near : NearLine). near.line < length c.args.on.now.map.now.lines) point.nearest
    in
    record {
      reasons = one_more_element c.loop-index.invariant.reasons (record {
        candidates = c.count_of-candidates.ensures;
        near = c.in_ok-nearest.ensures.near;
      }) c.in_ok-push.ensures.items;
      on_map = rw c.in_ok-push.ensures.items
          (All-push OnMap _ _ c.loop-index.invariant.on_map c.in_ok-nearest.ensures.on_map);
    }
