use Rattle.olr_legs.proofs.Ways.{way_itself}
use Rattle.olr_legs.proofs.way.first_of.Goals as goal

pub returns-in-Some-clause-best : goal.returns-in-Some-clause-best
returns-in-Some-clause-best c = rw c.in-Some.is (way_itself _ _)

pub returns-in_default-clause-other : goal.returns-in_default-clause-other
returns-in_default-clause-other c = way_itself _ _
