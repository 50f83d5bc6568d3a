use Rattle.olr_keys.proofs.Common.{arith, length-map}
use Rattle.olr_keys.proofs.Stepping.{rows_of_layer}
use Rattle.olr_keys.proofs.rows.Rows.layer_rows.Goals as goal

pub returns : goal.returns
returns c = grind (arith, length-map, rows_of_layer)
