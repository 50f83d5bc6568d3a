use Rattle.olr_legs.proofs.LegParts.{AreSoFar}
use Rattle.olr_legs.proofs.legs.legs_of.Given as goal

-- what else could be driven for the legs so far
abbrev pub invariant-loop-layer : goal.invariant-loop-layer
invariant-loop-layer l = AreSoFar l.map l.layers l.matched l.near l.layer l.legs.items
