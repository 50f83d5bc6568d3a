use Rattle.olr_index.proofs.Common.{refl, ranks_in}
use Rattle.olr_index.proofs.window.ByBoundingBox.nothing.Goals as goal

pub returns : goal.returns
unfolding ranks_in
returns c = refl
