use Rattle.olr_keys.proofs.Common.{◌≡◌, ℕ, ◌+◌, ◌-◌, ◌<◌, ◌≤◌, IsTotal}
use Rattle.olr_keys.proofs.search.next_total.Given as goal

abbrev pub invariant-loop-number : goal.invariant-loop-number
invariant-loop-number l =
    (l.rows.penalties ≡ l.fn.rows.penalties)
    × (l.rows.probes ≤ l.fn.rows.probes + (l.number - l.from))
    × ((total : ℕ) → l.from ≤ total → total < l.number → IsTotal l.fn.rows.penalties total → ⊥)
    × (l.fn.rows.probes ≤ l.rows.probes)
