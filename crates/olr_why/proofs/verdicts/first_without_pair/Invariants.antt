use Rattle.std.proofs.Common.{ℕ, ◌<◌, [], Option, Any, IsSome, slice_index_or}
use Rattle.olr_why.proofs.verdicts.first_without_pair.Given as goal

abbrev pub invariant-loop-point : goal.invariant-loop-point
invariant-loop-point l = (k : ℕ) → k < l.point
    → Any (λ (length : Option ℕ). IsSome length) (slice_index_or l.layers.lengths k [])
