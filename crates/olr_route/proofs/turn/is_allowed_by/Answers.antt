use Rattle.olr_route.proofs.Common.{rules, answers_always, Ban}
use Rattle.olr_route.proofs.Lines.{searched}
use Rattle.olr_route.proofs.turn.is_allowed_by.Goals as goal

pub returns : goal.returns
returns c =
    let found = c.binary_search_by_key.ensures in
    rw c.is_err.ensures.value (searched c.args.bans.now c.requires c.args.next
    c.binary_search_by_key.result found.bound
    (found.position (λ (ban : Ban). ban.to) (answers_always _ _ _ (λ f a r q h. search rules))))
