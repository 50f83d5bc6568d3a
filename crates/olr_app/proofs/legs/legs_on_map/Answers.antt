use Rattle.olr_app.proofs.Accepts.{none_refused, passed_on}
use Rattle.olr_app.proofs.LegsOf.{fault_on_map, refusal_on_map}
use Rattle.olr_app.proofs.Single.{exit}
use Rattle.olr_app.proofs.legs.legs_on_map.Goals as goal

pub returns-in_err-accepted-clause-fault : goal.returns-in_err-accepted-clause-fault
returns-in_err-accepted-clause-fault c =
    rw (exit c.from_residual.ensures.1) (refusal_on_map c.args.asked.now c.args.map.now _
    c.in_err-accepted.ensures.accepted)

pub returns-in_err-accepted-clause-refused : goal.returns-in_err-accepted-clause-refused
returns-in_err-accepted-clause-refused c =
    passed_on c.in_err-accepted.ensures.only (exit c.from_residual.ensures.1)

pub returns-clause-fault : goal.returns-clause-fault
returns-clause-fault c =
    fault_on_map c.args.asked.now c.args.map.now _ c.in_ok-accepted.ensures.accepted _
    c.legs_output.ensures.fault

pub returns-clause-refused : goal.returns-clause-refused
returns-clause-refused c = none_refused c.in_ok-accepted.ensures.only
