use Rattle.olr_keys.specs.Rows.{AreLastLayers, layers_of}
use Rattle.olr_keys.proofs.rows.fill.marks.Given as goal

abbrev pub invariant-loop-later : goal.invariant-loop-later
invariant-loop-later l = AreLastLayers l.table l.later (layers_of l.marks.items)
