use Rattle.olr_places.proofs.Common.{steps_of, AreCovered, covers, longest_run, missing_of, ◌≡◌, ◌≤◌, drop, nat_le}
use Rattle.olr_places.proofs.missing.misses_at_most.Given as goal

abbrev pub invariant-loop-piece : goal.invariant-loop-piece
invariant-loop-piece l = (l.run ≤ l.most) × AreCovered l.cover.pieces.items l.ahead
    × (nat_le (missing_of l.cover.pieces.items l.other) l.most
    ≡ nat_le (longest_run (covers l.cover.pieces.items) l.run
    (steps_of (drop l.piece-index l.other))) l.most)
