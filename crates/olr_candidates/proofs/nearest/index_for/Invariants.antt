use Rattle.olr_candidates.proofs.Common.{NearLine, ℕ, ◌<◌, ◌≤◌, length, get_or, IsNearer}
use Rattle.olr_candidates.proofs.nearest.index_for.Given as goal

-- the line is nearer than those from here on
abbrev pub invariant-loop-index : goal.invariant-loop-index
invariant-loop-index l = record {
  within : l.index ≤ length l.fn.list;
  behind : (k : ℕ) (d : NearLine) → l.index ≤ k → k < length l.fn.list
      → IsNearer l.fn.near (get_or l.fn.list k d);
}

abbrev pub decreases-loop-index : goal.decreases-loop-index
decreases-loop-index l = l.index
