use Rattle.olr_keys.proofs.Common.{ap, rules, arith, IsKey}
use Rattle.olr_keys.proofs.Sizes.{total_below}
use Rattle.olr_keys.proofs.search.next_key.Goals as goal

pub first_from-requires-2 : goal.first_from-requires-2
first_from-requires-2 c =
    let is : IsKey c.args.rows.now.penalties c.in-Some.after.now = search rules in
    let below = total_below _ _ (c.in-Some.after.now.ranks, is) in
    rw c.next_of_total.ensures.same (omega (arith, ap (λ k. k.total) c.after.view_is))
