use Rattle.olr_candidates.proofs.Members.{on_a_line, driven, fits, no_further}
use Rattle.olr_candidates.proofs.laws.bounds.Goals as goal

pub returns-clause-line : goal.returns-clause-line
returns-clause-line c tolerances origin point is_last lines candidates are k d inside =
    on_a_line _ _ _ _ _ _ (are.only k d inside)

pub returns-clause-at : goal.returns-clause-at
returns-clause-at c tolerances origin point is_last lines candidates are k d inside =
    driven _ _ _ _ _ _ (are.only k d inside)

pub returns-clause-penalty : goal.returns-clause-penalty
returns-clause-penalty c tolerances origin point is_last road candidates sound are k d inside =
    fits _ _ _ _ _ c.differences.ensures.at_most _ sound.lines.each _ (are.only k d inside)

pub returns-clause-within : goal.returns-clause-within
returns-clause-within c tolerances origin point is_last lines candidates are k d inside =
    no_further _ _ _ _ _ c.nearest_within.ensures _ (are.only k d inside)
