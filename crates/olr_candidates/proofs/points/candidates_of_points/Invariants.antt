use Rattle.olr_candidates.proofs.AllPoints.{AreListsOf}
use Rattle.olr_candidates.proofs.points.candidates_of_points.Given as goal

-- the lists of the points so far
abbrev pub invariant-loop-index : goal.invariant-loop-index
invariant-loop-index l = AreListsOf l.fn.tolerances l.fn.reference l.fn.map.lines l.index
    l.lists.items
