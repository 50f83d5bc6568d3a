use Rattle.olr_shape.proofs.Ends.{ends_at_last, starts_at_first}
use Rattle.olr_shape.proofs.laws.spots_of_ends.Goals as goal

pub returns-clause-first : goal.returns-clause-first
returns-clause-first c = starts_at_first c.laws_of_the_plane.ensures

pub returns-clause-last : goal.returns-clause-last
returns-clause-last c = ends_at_last c.laws_of_the_plane.ensures
