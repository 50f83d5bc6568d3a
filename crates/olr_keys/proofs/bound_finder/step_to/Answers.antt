use Rattle.std.proofs.Common.{refl}
use Rattle.olr_keys.proofs.Leaving.{none_by, lower_by, unjoined}
use Rattle.olr_keys.proofs.bound_finder.step_to.Goals as goal

pub returns-in_err-joined-clause-step : goal.returns-in_err-joined-clause-step
returns-in_err-joined-clause-step c =
    rw c.from_residual.ensures
    (unjoined c.args.bounds.now c.args.layer c.args.before c.args.rank
    (rw c.table.ensures.table at c.in_err-joined.ensures.joined))

pub returns-in_default-clause-step : goal.returns-in_default-clause-step
returns-in_default-clause-step c = none_by _ _ _ _ _ c.in_default.is c.least.ensures

pub returns-clause-step : goal.returns-clause-step
returns-clause-step c =
    let (joined, there) = rw c.table.ensures.table at c.in_ok-joined.ensures.joined in
    ((_, _, joined, there, refl), lower_by _ _ _ _ _ c.in-Some.is joined refl c.least.ensures)
