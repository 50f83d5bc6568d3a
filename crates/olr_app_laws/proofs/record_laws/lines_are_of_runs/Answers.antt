use Rattle.olr_app_laws.proofs.OfRequests.{lines_are_of_runs}
use Rattle.olr_app_laws.proofs.record_laws.lines_are_of_runs.Goals as goal

pub returns : goal.returns
returns c = lines_are_of_runs c.laws_below.ensures
