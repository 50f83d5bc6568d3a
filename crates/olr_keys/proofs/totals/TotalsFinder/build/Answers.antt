use Rattle.olr_keys.proofs.Listed.{has_list}
use Rattle.olr_keys.proofs.totals.TotalsFinder.build.Goals as goal

pub returns-clause-answers : goal.returns-clause-answers
returns-clause-answers c = rw c.in_ok-rows.ensures.0 (has_list _)
