use Rattle.olr_candidates.proofs.Projections as projections
use Rattle.olr_candidates.proofs.projection.one_projection.Goals as goal

pub returns : goal.returns
returns c = projections.one_projection c.one_spot.ensures.nearest c.one_spot.ensures.along
    c.one_sector.ensures.one c.one_sector.ensures.none
