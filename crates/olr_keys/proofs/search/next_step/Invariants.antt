use Rattle.olr_keys.proofs.Common.{◌≡◌, ℕ, ◌+◌, ◌-◌, ◌<◌, ◌≤◌, IsStep}
use Rattle.olr_keys.proofs.search.next_step.Given as goal

abbrev pub invariant-loop-index : goal.invariant-loop-index
invariant-loop-index l =
    (l.rows.penalties ≡ l.fn.rows.penalties)
    × (l.rows.probes ≤ l.fn.rows.probes + (l.index - l.above))
    × ((rank left : ℕ) → l.above < rank → rank ≤ l.index
    → IsStep l.fn.rows.penalties l.rest.layer l.rest.before rank l.rest.total left → ⊥)
    × (l.fn.rows.probes ≤ l.rows.probes)
