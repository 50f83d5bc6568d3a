use Rattle.olr_index.proofs.Common.{length, ◌≡◌, ℕ, ◌/◌, ◌^◌, ◌<◌, ◌≤◌, slice_index, AreHeads}
use Rattle.olr_index.proofs.bucketing.heads_up_to.Given as goal

abbrev pub invariant-loop-bucket : goal.invariant-loop-bucket
invariant-loop-bucket l = (length l.heads.items ≡ l.bucket) × (l.place ≤ length l.fn.keys)
    × ((k : ℕ) → k < l.place → slice_index l.fn.keys k / 2 ^ l.fn.shift < l.bucket)
    × AreHeads l.fn.shift l.fn.keys l.heads.items
