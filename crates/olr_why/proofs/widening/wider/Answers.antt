use Rattle.olr_why.proofs.widening.wider.Goals as goal

pub least_between-requires-clause-bracket : goal.least_between-requires-clause-bracket
least_between-requires-clause-bracket c = c.up_to-bracket.ensures _ _ _ _ c.requires.name
    (rw c.in-Some.is at c.in_ok-bracket.ensures) (rw c.in-Some-2.is at c.in_ok-wide.ensures.crowded)
