use Rattle.std.proofs.Common.{arith}
use Rattle.std.proofs.lemmas.Nat.{mul-lt}
use Rattle.olr_road.proofs.axes.parallel_share.Goals as goal

pub overflow_sub-square : goal.overflow_sub-square
overflow_sub-square c = omega (
  arith,
  mul-lt c.from-amount.result c.from-amount.result 80000001 80000001 (omega arith) (omega arith),
)
