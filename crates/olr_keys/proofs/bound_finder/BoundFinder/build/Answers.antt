use Rattle.olr_keys.proofs.Listed.{has_list}
use Rattle.olr_keys.proofs.bound_finder.BoundFinder.build.Goals as goal

pub returns : goal.returns
returns c = record { answers = rw c.in_ok-bounds.ensures (has_list _) }
