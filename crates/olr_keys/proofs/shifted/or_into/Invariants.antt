use Rattle.std.proofs.Common.{◌≡◌, ◌*◌}
use Rattle.olr_keys.proofs.Joining.{IsJoinedBelow}
use Rattle.olr_keys.proofs.shifted.or_into.Given as goal

abbrev pub invariant-loop-lanes : goal.invariant-loop-lanes
invariant-loop-lanes l = (l.at ≡ 32 * l.lanes-index) × IsJoinedBelow l.initial.dst l.src l.at l.dst

abbrev pub invariant-loop-m : goal.invariant-loop-m
invariant-loop-m l = IsJoinedBelow l.fn.dst l.src l.m l.dst
