use Rattle.olr_keys.proofs.rows.Rows.test.Goals as goal

pub returns-clause-step : goal.returns-clause-step
returns-clause-step c =
    rw (← c.raise.ensures.same) c.left.ensures
