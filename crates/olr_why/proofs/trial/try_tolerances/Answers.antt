use Rattle.olr_why.proofs.Trials.{trial_matching, trial_without_pair, trial_with_empty, trial_without}
use Rattle.olr_why.proofs.trial.try_tolerances.Goals as goal

pub returns-then-has_empty : goal.returns-then-has_empty
returns-then-has_empty c = trial_with_empty c.no_lists_and_too_many.ensures c.in-Some.lists.items
    (rw c.in-Some.is at c.in_ok-lists.ensures)
    (rw c.deref.ensures.value at (c.has_empty.ensures.0 c.if-has_empty.true))

pub returns-in_default-2 : goal.returns-in_default-2
returns-in_default-2 c =
    trial_without_pair c.no_lists_and_too_many.ensures (rw c.in-Some.is at c.in_ok-lists.ensures)
    (rw c.in_default-2.is at c.in_ok-layers.ensures)

pub returns-in-Some-3 : goal.returns-in-Some-3
returns-in-Some-3 c =
    let (on, reference, tolerances, _) = rw c.in-Some-2.is at c.in_ok-layers.ensures in
    trial_matching on reference tolerances
    c.no_lists_and_too_many.ensures (rw c.in-Some-3.is at c.in_ok-key.ensures)

pub returns : goal.returns
returns c =
    let (on, reference, tolerances, _) = rw c.in-Some-2.is at c.in_ok-layers.ensures in
    trial_without on reference tolerances c.no_lists_and_too_many.ensures c.matching_has_key.ensures
    (rw c.in-None.is at c.in_ok-key.ensures)
