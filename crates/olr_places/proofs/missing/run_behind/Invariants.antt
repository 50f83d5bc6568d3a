use Rattle.olr_places.proofs.Common.{stretch, Step, steps_in, covers, longest_run, ◌≡◌, ◌-◌, ◌≤◌, ◌++◌, List, nat_le}
use Rattle.olr_places.proofs.missing.run_behind.Given as goal

abbrev pub invariant-loop-at : goal.invariant-loop-at
invariant-loop-at l = (l.run ≤ l.most) × ((rest : List Step)
    → nat_le (longest_run (covers l.cover.pieces.items) l.fn.before (steps_in l.piece ++ rest))
    l.most
    ≡ nat_le (longest_run (covers l.cover.pieces.items) l.run
    (stretch l.piece.line l.at (l.piece.to - l.at) ++ rest)) l.most)

abbrev pub decreases-loop-at : goal.decreases-loop-at
decreases-loop-at l = l.piece.to - l.at
