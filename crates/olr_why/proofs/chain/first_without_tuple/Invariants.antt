use Rattle.olr_why.proofs.Common.{◌<◌, ◌-◌, length, AreEnds}
use Rattle.olr_why.proofs.chain.first_without_tuple.Given as goal

abbrev pub invariant-loop-layer : goal.invariant-loop-layer
invariant-loop-layer l = (0 < length l.ends.items) × AreEnds l.layers (l.layer - 1) l.ends.items
