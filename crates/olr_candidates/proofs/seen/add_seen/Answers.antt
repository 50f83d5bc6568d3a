use Rattle.std.proofs.Common.{arith}
use Rattle.olr_candidates.proofs.SeenFrom.{seen_more, seen_still}
use Rattle.olr_candidates.proofs.seen.add_seen.Goals as goal

pub returns-in_default-clause-seen : goal.returns-in_default-clause-seen
returns-in_default-clause-seen c ranks are unseen =
    seen_still _ _ _ _ _ _ are
    (λ projection at. let far = c.in_default.ensures.projection projection at in omega arith)

pub returns-clause-seen : goal.returns-clause-seen
returns-clause-seen c ranks are unseen = rw c.in_ok-push.ensures.items
    (seen_more _ _ _ _ _ _ are c.in-Some.projection unseen (record {
      projection = c.in-Some.ensures.projection;
      within = omega (arith, c.in-Some.ensures.within);
    }))
