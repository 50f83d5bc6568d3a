use Rattle.std.proofs.Common.{◌≡◌, map, take}
use Rattle.olr_index.proofs.keyed.keys_of.Given as goal

abbrev pub invariant-loop-item : goal.invariant-loop-item
invariant-loop-item g l = l.keys.items ≡ map g.T.Keyed.key_of (take l.item-index l.fn.items)
