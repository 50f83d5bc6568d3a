use Rattle.olr_app.proofs.Common.{string_bytes, false}
use Rattle.olr_app.proofs.Accepts.{none_refused, passed_on}
use Rattle.olr_app.proofs.OnMap.{fault_on_map, output_on_map, refusal_on_map}
use Rattle.olr_app.proofs.Single.{exit}
use Rattle.olr_app.proofs.on_map.MapForRequests.answer.Goals as goal

pub returns-in_err-accepted-clause-fault : goal.returns-in_err-accepted-clause-fault
returns-in_err-accepted-clause-fault c =
    rw (exit c.from_residual.ensures.1) (refusal_on_map false c.args.self.now.map.now
    c.args.request.now _ c.in_err-accepted.ensures.accepted)

pub returns-in_err-accepted-clause-refused : goal.returns-in_err-accepted-clause-refused
returns-in_err-accepted-clause-refused c =
    passed_on c.in_err-accepted.ensures.only (exit c.from_residual.ensures.1)

pub returns-in_err-prepare-clause-refused : goal.returns-in_err-prepare-clause-refused
returns-in_err-prepare-clause-refused c = none_refused c.in_ok-accepted.ensures.only

pub returns-clause-answer : goal.returns-clause-answer
returns-clause-answer c =
    output_on_map false c.args.self.now.map.now c.args.request.now _
    c.in_ok-accepted.ensures.accepted (λ output. string_bytes output) _
    (rw (← c.prepare.ensures.map) c.output.ensures.output)

pub returns-clause-fault : goal.returns-clause-fault
returns-clause-fault c =
    fault_on_map false c.args.self.now.map.now c.args.request.now _
    c.in_ok-accepted.ensures.accepted _ (rw (← c.prepare.ensures.map) c.output.ensures.fault)

pub returns-clause-refused : goal.returns-clause-refused
returns-clause-refused c = none_refused c.in_ok-accepted.ensures.only
