use Rattle.olr_app_laws.proofs.Marks.{fault_is_of_run, one_answer_of_many, output_is_of_run}
use Rattle.olr_app_laws.proofs.laws.answers_of_many.Goals as goal

pub returns-clause-output : goal.returns-clause-output
returns-clause-output c = output_is_of_run c.laws_below.ensures

pub returns-clause-fault : goal.returns-clause-fault
returns-clause-fault c = fault_is_of_run c.laws_below.ensures

pub returns-clause-one : goal.returns-clause-one
returns-clause-one c = one_answer_of_many c.laws_below.ensures
