use Rattle.olr_road.proofs.Common.{starts_of, ◌≡◌, take}
use Rattle.olr_road.proofs.map.starts_of.Given as goal

abbrev pub invariant-loop-entry : goal.invariant-loop-entry
invariant-loop-entry l = l.starts.items ≡ starts_of (take l.entry-index l.fn.entries)
