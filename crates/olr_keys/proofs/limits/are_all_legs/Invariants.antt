use Rattle.olr_keys.proofs.Common.{ℕ, ◌<◌, AreLegsFrom, penalties_of}
use Rattle.olr_keys.proofs.limits.are_all_legs.Given as goal

-- each layer so far has the legs to the next one
abbrev pub invariant-loop-layer : goal.invariant-loop-layer
invariant-loop-layer l = (k : ℕ) → k < l.layer → AreLegsFrom (penalties_of l.penalties l.legs) k
