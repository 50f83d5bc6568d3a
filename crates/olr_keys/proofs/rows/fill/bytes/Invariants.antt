use Rattle.olr_keys.proofs.Common.{◌≡◌, ◌+◌, ◌*◌, ◌≤◌, length, take, sum_by}
use Rattle.olr_keys.proofs.rows.fill.bytes.Given as goal

abbrev pub invariant-loop-layer : goal.invariant-loop-layer
invariant-loop-layer l = (l.rows ≡ sum_by length (take l.layer l.table.candidates) + 1)
    × (l.rows ≤ 64 * l.layer + 1)
