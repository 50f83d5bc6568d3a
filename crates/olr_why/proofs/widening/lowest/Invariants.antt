use Rattle.olr_why.proofs.Common.{IsEnough, Lowest, ℕ, ◌<◌}
use Rattle.olr_why.proofs.widening.lowest.Given as goal

abbrev pub invariant-loop-value : goal.invariant-loop-value
invariant-loop-value l = (value : ℕ) → value < l.value → l.on.tolerances.lowest < value
    → IsEnough l.on.map.now l.on.tolerances l.on.reference.now Lowest value → ⊥
