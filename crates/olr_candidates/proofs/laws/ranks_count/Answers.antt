use Rattle.olr_candidates.proofs.OneList as ordered
use Rattle.olr_candidates.proofs.laws.ranks_count.Goals as goal

pub returns-clause-count : goal.returns-clause-count
returns-clause-count c = ordered.ranks_count
