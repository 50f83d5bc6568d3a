use Rattle.olr_candidates.proofs.LineCandidates.{one_candidate}
use Rattle.olr_candidates.proofs.laws.one_candidate_a_line.Goals as goal

pub returns : goal.returns
returns c = one_candidate c.one_projection.ensures
