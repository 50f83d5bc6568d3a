use Rattle.std.proofs.Common.{◌≡◌, vec_len}
use Rattle.olr_road.proofs.axes.positions_of.Given as goal

abbrev pub invariant-loop-node : goal.invariant-loop-node
invariant-loop-node l = vec_len l.positions ≡ l.node-index
