use Rattle.std.proofs.Common.{arith}
use Rattle.olr_candidates.proofs.LineCandidates.{one_candidate}
use Rattle.olr_candidates.proofs.Lists.{found_still, found_more, found_full}
use Rattle.olr_candidates.proofs.search.add_if.Goals as goal

pub returns-in_default : goal.returns-in_default
returns-in_default c query lines seen rank found unseen none =
    found_still _ _ _ _ _ found (rw c.in_default.is at none)

pub returns-in_err-add : goal.returns-in_err-add
returns-in_err-add c query lines seen rank found unseen one =
    let is = rw c.in-Some.is at one in rw c.from_residual.ensures
    (found_full _ _ _ _ _ _ found unseen is is.2.rates.line_is
    (omega (arith, c.in_err-add.ensures.full)))

pub returns : goal.returns
returns c query lines seen rank found unseen one =
    let is = rw c.in-Some.is at one in
    found_more _ _ _ _ _ _ _ found unseen is is.2.rates.line_is
    (λ other also. one_candidate c.one_projection.ensures _ _ _ _ _ _ _ _ also is)
    c.in_ok-add.ensures.added c.in_ok-add.ensures.in_order
