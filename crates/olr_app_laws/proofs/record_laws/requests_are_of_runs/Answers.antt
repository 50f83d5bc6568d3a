use Rattle.olr_app_laws.proofs.OfRequests.{request_faults_are_of_runs, requests_are_of_runs}
use Rattle.olr_app_laws.proofs.record_laws.requests_are_of_runs.Goals as goal

pub returns-clause-answer : goal.returns-clause-answer
returns-clause-answer c = requests_are_of_runs c.laws_below.ensures

pub returns-clause-fault : goal.returns-clause-fault
returns-clause-fault c = request_faults_are_of_runs c.laws_below.ensures
