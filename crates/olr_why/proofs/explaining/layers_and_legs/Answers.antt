use Rattle.olr_why.proofs.AllReasons.{crowded_verdict}
use Rattle.olr_why.proofs.explaining.layers_and_legs.Goals as goal

pub returns-in-Err-TooManyCandidates-clause-verdict :
    goal.returns-in-Err-TooManyCandidates-clause-verdict
returns-in-Err-TooManyCandidates-clause-verdict c =
    crowded_verdict c.no_list_of_point_and_too_many.ensures c.args.on.now.map.now _ _
    c.in-Err-TooManyCandidates.number
    (rw c.in-Err-TooManyCandidates.field-0-is at c.in-Err-TooManyCandidates.ensures.fault)

pub returns-in_ok-verdict-in-Ok-clause-verdict : goal.returns-in_ok-verdict-in-Ok-clause-verdict
returns-in_ok-verdict-in-Ok-clause-verdict c =
    rw (← c.in-Ok.ensures.reference, ← c.in-Ok.ensures.tolerances)
    c.in_ok-verdict-in-Ok.ensures.verdict
