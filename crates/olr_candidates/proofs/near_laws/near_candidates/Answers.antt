use Rattle.olr_candidates.proofs.NearLines.{candidates_fail_none}
use Rattle.olr_candidates.proofs.near_laws.near_candidates.Goals as goal

pub returns-clause-fails_none : goal.returns-clause-fails_none
returns-clause-fails_none c = candidates_fail_none c.one_projection.ensures
