use Rattle.olr_app_laws.proofs.OfRequests.{batch_fault_is_answers, batch_is_answer}
use Rattle.olr_app_laws.proofs.record_laws.batch_is_answer.Goals as goal

pub returns-clause-answer : goal.returns-clause-answer
returns-clause-answer c = batch_is_answer c.laws_below.ensures

pub returns-clause-fault : goal.returns-clause-fault
returns-clause-fault c = batch_fault_is_answers c.laws_below.ensures
