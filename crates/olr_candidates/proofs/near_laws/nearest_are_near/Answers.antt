use Rattle.olr_candidates.proofs.NearestLines as lines
use Rattle.olr_candidates.proofs.near_laws.nearest_are_near.Goals as goal

pub returns-clause-near : goal.returns-clause-near
returns-clause-near c = lines.nearest_are_near

pub returns-clause-line : goal.returns-clause-line
returns-clause-line c = lines.near_is_of_lines
