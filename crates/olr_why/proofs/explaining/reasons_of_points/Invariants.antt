use Rattle.olr_why.specs.Reasons.{AreOnMap, IsPointReason}
use Rattle.olr_why.proofs.Lists.{AreSoFar}
use Rattle.olr_why.proofs.explaining.reasons_of_points.Given as goal

-- the points so far
abbrev pub invariant-loop-index : goal.invariant-loop-index
invariant-loop-index l = record {
  reasons : AreSoFar (IsPointReason l.on.map.now l.on.tolerances l.on.reference.now l.nearest)
      l.index l.points.items;
  on_map : AreOnMap l.on.map.now l.points.items;
}
