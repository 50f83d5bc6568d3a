use Rattle.std.proofs.Common.{arith}
use Rattle.olr_legs.proofs.Ways.{less_says, shorter_says}
use Rattle.olr_legs.proofs.way.Way.is_behind.Goals as goal

pub returns : goal.returns
returns c = shorter_says _ _ _ _ _ (omega arith) (less_says _ _ _ (rw c.as_slice.ensures.value at c.lt.ensures))
