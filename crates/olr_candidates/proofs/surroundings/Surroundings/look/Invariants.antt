use Rattle.olr_candidates.proofs.AllPoints.{AreSeenOf}
use Rattle.olr_candidates.proofs.surroundings.Surroundings.look.Given as goal

-- the lines seen from the points so far
abbrev pub invariant-loop-index : goal.invariant-loop-index
invariant-loop-index l = AreSeenOf l.fn.on.reference.now l.fn.on.map.now.lines l.fn.reach l.index
    l.points.items
