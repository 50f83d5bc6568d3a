use Rattle.olr_app_laws.proofs.AsRuns.{answers_are_of_runs, faults_are_of_runs, one_answer}
use Rattle.olr_app_laws.proofs.record_laws.answers_are_of_runs.Goals as goal

pub returns-clause-answer : goal.returns-clause-answer
returns-clause-answer c = answers_are_of_runs c.laws_below.ensures

pub returns-clause-fault : goal.returns-clause-fault
returns-clause-fault c = faults_are_of_runs c.laws_below.ensures

pub returns-clause-one : goal.returns-clause-one
returns-clause-one c = one_answer c.laws_below.ensures
