use Rattle.std.proofs.Common.{refl}
use Rattle.olr_shape.proofs.Deduped.{deduped}
use Rattle.olr_shape.proofs.shape.leave_once.Goals as goal

pub returns : goal.returns
returns c = deduped _ (λ x y. refl) _ _ c.dedup.ensures.filtered
