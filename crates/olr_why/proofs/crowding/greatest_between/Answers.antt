use Rattle.std.proofs.Common.{arith, ◌+◌, ◌≡◌}
use Rattle.olr_why.proofs.crowding.greatest_between.Goals as goal

pub returns-clause-crowded : goal.returns-clause-crowded
returns-clause-crowded c less =
    let next : c.loop-crowded.value + 1 ≡ c.loop-crowded.crowded =
    omega (arith, c.loop-crowded-test.false, c.loop-crowded.invariant.lower) in
    rw next (c.loop-crowded.invariant.is_crowded (omega (arith, less)))
