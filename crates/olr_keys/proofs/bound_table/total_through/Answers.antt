use Rattle.std.proofs.Common.{sym, ◌∙◌, arith}
use Rattle.olr_keys.proofs.Bounding.{through_none, through_some}
use Rattle.olr_keys.proofs.bound_table.total_through.Goals as goal

pub returns-in_default : goal.returns-in_default
returns-in_default c = through_none _ _ _ _ _ c.in_default.is c.requires.bound

pub returns : goal.returns
returns c =
    through_some _ _ _ _ _ c.in-Some.is (sym c.leg_to.ensures ∙ c.in_ok-leg.was) (omega arith)
    c.requires.bound
