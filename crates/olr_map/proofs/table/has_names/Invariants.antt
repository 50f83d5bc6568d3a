use Rattle.olr_map.proofs.Common.{◌≡◌, ℕ, ◌<◌, map, slice_get, field_at}
use Rattle.olr_map.proofs.table.has_names.Given as goal

abbrev pub invariant-loop-place : goal.invariant-loop-place
invariant-loop-place l = (k : ℕ) → k < l.place
    → field_at l.fn.row k ≡ slice_get (map (λ name. name.now) l.fn.names) k
