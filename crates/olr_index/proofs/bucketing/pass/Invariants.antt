use Rattle.olr_index.proofs.Common.{length, ◌-◌, ℕ, ◌/◌, ◌^◌, ◌<◌, ◌≤◌, slice_index}
use Rattle.olr_index.proofs.bucketing.pass.Given as goal

abbrev pub invariant-loop-next : goal.invariant-loop-next
invariant-loop-next l = (l.next ≤ length l.fn.keys)
    × ((k : ℕ) → k < l.next → slice_index l.fn.keys k / 2 ^ l.fn.shift < l.fn.bucket)

abbrev pub decreases-loop-next : goal.decreases-loop-next
decreases-loop-next l = length l.keys - l.next
