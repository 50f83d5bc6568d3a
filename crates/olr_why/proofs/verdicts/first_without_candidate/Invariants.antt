use Rattle.std.proofs.Common.{ℕ, ◌<◌, [], length, slice_index_or}
use Rattle.olr_why.proofs.verdicts.first_without_candidate.Given as goal

abbrev pub invariant-loop-point : goal.invariant-loop-point
invariant-loop-point l = (k : ℕ) → k < l.point
    → 0 < length (slice_index_or l.layers.candidates k [])
