use Rattle.olr_candidates.proofs.Common.{ap, arith, rules, ◌≤◌, length, IsListOf}
use Rattle.olr_candidates.proofs.AllPoints.{all_lists, one_more}
use Rattle.olr_candidates.proofs.points.candidates_of_points.Goals as goal

pub loop-index-preserved : goal.loop-index-preserved
loop-index-preserved c =
    let at_most : length c.in-Ok.list.items ≤ 64 = search rules in
    rw c.in-Ok-push.ensures.items (one_more
    (IsListOf c.args.tolerances.now c.args.reference.now c.args.map.now.lines)
    (λ list. list.items) _ _ _ c.loop-index.invariant (c.in-Ok.ensures, at_most))

pub returns-clause-lists : goal.returns-clause-lists
returns-clause-lists c = all_lists _ _ _ _ _ c.loop-index.invariant
    (omega (arith, ap length c.points-index-end.ensures))
