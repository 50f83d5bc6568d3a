use Rattle.olr_road.proofs.Common.{ends_of, ◌≡◌, take}
use Rattle.olr_road.proofs.map.ends_of.Given as goal

abbrev pub invariant-loop-entry : goal.invariant-loop-entry
invariant-loop-entry l = l.ends.items ≡ ends_of (take l.entry-index l.fn.entries)
