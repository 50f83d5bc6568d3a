use Rattle.std.proofs.Common.{arith}
use Rattle.olr_route.proofs.InVain.{too_far}
use Rattle.olr_route.proofs.line_end.arrival_over.Goals as goal

pub returns-then-not-may_reach : goal.returns-then-not-may_reach
returns-then-not-may_reach c = λ clear ends may.
    too_far c.args.search.now c.in-Some.goals _ _ _ c.in-Some.is (rw c.in-Some.is at c.requires)
    ends (omega (arith, c.in_ok-at_end.ensures, c.if-not-may_reach.ensures)) may
