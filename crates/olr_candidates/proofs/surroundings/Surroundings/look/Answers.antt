use Rattle.olr_candidates.proofs.Common.{AreSeen, AreSeenFrom}
use Rattle.olr_candidates.proofs.AllPoints.{one_more}
use Rattle.olr_candidates.proofs.OfPoints.{of_point}
use Rattle.olr_candidates.proofs.surroundings.Surroundings.look.Goals as goal

pub loop-index-preserved : goal.loop-index-preserved
loop-index-preserved c = rw c.in_ok-push.ensures.items (one_more
    (λ index seen. AreSeenFrom c.args.on.now.reference.now c.args.on.now.map.now.lines index
    c.args.reach seen) (λ seen. seen.items) _ _ _ c.loop-index.invariant
    (of_point _ _ _ _ c.query_of-query.ensures.query
    (λ t o p l. AreSeen o p l c.args.on.now.map.now.lines c.args.reach c.in-Some.seen.items)
    (rw c.in-Some.is at c.in_ok-seen.ensures.seen)))
