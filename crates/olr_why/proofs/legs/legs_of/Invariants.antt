use Rattle.olr_why.specs.Legs.{IsLegReason}
use Rattle.olr_why.proofs.Lists.{AreSoFar}
use Rattle.olr_why.proofs.legs.legs_of.Given as goal

-- the legs so far
abbrev pub invariant-loop-layer : goal.invariant-loop-layer
invariant-loop-layer l = AreSoFar (IsLegReason l.map l.layers) l.layer l.legs.items
