use Rattle.olr_app_laws.proofs.HeadlineCursors.{goes_on_here, none_refused}
use Rattle.olr_app_laws.proofs.headline.cursors_go_on.Goals as goal

pub returns-clause-next : goal.returns-clause-next
returns-clause-next c = goes_on_here c.laws_below.ensures

pub returns-clause-answer : goal.returns-clause-answer
returns-clause-answer c = none_refused c.laws_below.ensures
