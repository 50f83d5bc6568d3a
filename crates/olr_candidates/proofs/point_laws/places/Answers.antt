use Rattle.olr_candidates.proofs.PointLaws.{are_places, are_departures}
use Rattle.olr_candidates.proofs.point_laws.places.Goals as goal

pub returns-clause-places : goal.returns-clause-places
returns-clause-places c = are_places c.bounds.ensures.line c.bounds.ensures.within

pub returns-clause-departures : goal.returns-clause-departures
returns-clause-departures c = are_departures c.bounds.ensures.line c.bounds.ensures.at
