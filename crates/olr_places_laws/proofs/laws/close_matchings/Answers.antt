use Rattle.olr_places_laws.proofs.CloseLaws.{at_zero, stays, symmetric}
use Rattle.olr_places.proofs.CloseLaws.{reflexive}
use Rattle.olr_places_laws.proofs.laws.close_matchings.Goals as goal

pub returns-clause-symmetric : goal.returns-clause-symmetric
returns-clause-symmetric c = symmetric

pub returns-clause-reflexive : goal.returns-clause-reflexive
returns-clause-reflexive c = reflexive

pub returns-clause-further : goal.returns-clause-further
returns-clause-further c = stays

pub returns-clause-at_zero : goal.returns-clause-at_zero
returns-clause-at_zero c = at_zero
