use Rattle.olr_keys.proofs.Common.{refl}
use Rattle.olr_keys.proofs.NextKeys.{no_key_from, first_key_from, found_alone}
use Rattle.olr_keys.proofs.search.first_from.Goals as goal

pub returns-in_err-total-clause-key : goal.returns-in_err-total-clause-key
returns-in_err-total-clause-key c =
    rw c.from_residual.ensures (no_key_from _ c.in_err-total.ensures.total)

pub returns-clause-key : goal.returns-clause-key
returns-clause-key c =
    let total = c.in_ok-total.total in
    let found = found_alone c.new-ranks.ensures (rw c.of.ensures at c.descend.ensures.found) in
    first_key_from _ _ _ _ refl c.in_ok-total.ensures.total (rw (← c.next_total.ensures.same) found)
