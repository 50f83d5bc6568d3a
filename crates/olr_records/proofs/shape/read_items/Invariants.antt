use Rattle.olr_records.proofs.Common.{◌≡◌, map, length, coordinates_of}
use Rattle.olr_records.proofs.Items.{Continues}
use Rattle.olr_records.proofs.shape.read_items.Given as goal

abbrev pub invariant-loop : goal.invariant-loop
invariant-loop l = (length l.shape.items ≡ l.counter)
    × Continues l.fn.text (map coordinates_of l.shape.items) l.rest
