use Rattle.olr_keys.specs.Bounds.{AreLastBounds, lists_of}
use Rattle.olr_keys.proofs.bound_table.Bounds.build.Given as goal

abbrev pub invariant-loop-later : goal.invariant-loop-later
invariant-loop-later l = AreLastBounds l.table l.later (lists_of l.least.items)
