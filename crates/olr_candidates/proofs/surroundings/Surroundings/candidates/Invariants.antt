use Rattle.olr_candidates.proofs.AllPoints.{AreListsOf}
use Rattle.olr_candidates.proofs.surroundings.Surroundings.candidates.Given as goal

-- the lists of the points so far
abbrev pub invariant-loop-index : goal.invariant-loop-index
invariant-loop-index l = AreListsOf l.fn.on.tolerances l.fn.on.reference.now l.fn.on.map.now.lines
    l.index l.lists.items
