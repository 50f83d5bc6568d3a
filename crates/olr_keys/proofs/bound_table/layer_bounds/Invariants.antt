use Rattle.olr_keys.specs.Bounds.{AreFirstBounds}
use Rattle.olr_keys.proofs.bound_table.layer_bounds.Given as goal

abbrev pub invariant-loop-index : goal.invariant-loop-index
invariant-loop-index l = AreFirstBounds l.table l.layer l.index l.bounds.items
