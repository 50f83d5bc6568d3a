use Rattle.olr_why.proofs.Common.{NoMatching, IsTrialWith}
use Rattle.olr_why.proofs.Halving.{first_two, none_up_to_greatest}
use Rattle.olr_why.proofs.Tried.{none_up_to}
use Rattle.olr_why.proofs.widening.wider_values.Goals as goal

pub returns-in-NoMatching : goal.returns-in-NoMatching
returns-in-NoMatching c =
    let trial : IsTrialWith c.args.on.now.map.now c.args.on.now.tolerances
    c.args.on.now.reference.now c.args.name c.greatest-high.result NoMatching =
    rw c.in-NoMatching.is at c.in_ok-try_value.ensures in
    none_up_to_greatest (rw (← c.greatest-high.ensures) (none_up_to c.requires.name trial))

pub returns-in-Crowded : goal.returns-in-Crowded
returns-in-Crowded c = first_two c.value-low.ensures c.greatest-high.ensures c.if-low-high.false
    (rw c.in-Crowded.is at c.in_ok-try_value.ensures)

pub returns-in-Matching : goal.returns-in-Matching
returns-in-Matching c = first_two c.value-low.ensures c.greatest-high.ensures c.if-low-high.false
    (rw c.in-Matching.is at c.in_ok-try_value.ensures)
