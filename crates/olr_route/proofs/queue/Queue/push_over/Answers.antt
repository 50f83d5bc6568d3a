use Rattle.olr_route.proofs.Common.{arith, ap, sym}
use Rattle.olr_route.proofs.Visiting.{pushes}
use Rattle.olr_route.proofs.queue.Queue.push_over.Goals as goal

pub returns : goal.returns
returns c =
    let over = c.in-Some.ensures in
    rw (sym c.self.view_is) (pushes c.args.search.now c.args.step c.args.so_far _ c.requires.step _
    over.0
    (omega (arith, ap (λ a. a.at_end) over.2))
    (rw over.2 at c.in_ok-push.ensures.permutation))
