use Rattle.std.proofs.Common.{string_bytes}
use Rattle.olr_likely.proofs.Joined.{joined}
use Rattle.olr_likely.proofs.text.ShownPlaceToTextOnMap.push.Goals as goal

pub returns : goal.returns
returns c =
    let old = string_bytes c.args.out.now in
    joined old _ _ _ _
    (joined old _ _ _ _
    (joined old _ _ _ _
    (joined old _ _ _ _
    (joined old _ _ _ _ c.in_ok-push_head.ensures c.in_ok-push_rank.ensures)
    c.in_ok-push_cost.ensures) c.in_ok-push_str.ensures.bytes) c.in_ok-push_points_and_legs.ensures)
    (rw (← c.location.ensures) c.in_ok-push_covered.ensures)
