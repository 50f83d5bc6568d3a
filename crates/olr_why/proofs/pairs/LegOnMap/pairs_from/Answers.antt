use Rattle.std.proofs.Common.{◌≡◌, arith}
use Rattle.olr_why.proofs.pairs.LegOnMap.pairs_from.Goals as goal

pub returns : goal.returns
returns c =
    let all : c.loop-class.class ≡ 8 = omega (
      arith,
      c.class_limit-class.ensures,
      c.loop-class.auto.class-end,
      c.loop-class-test.false,
    ) in
    rw all at c.loop-class.invariant
