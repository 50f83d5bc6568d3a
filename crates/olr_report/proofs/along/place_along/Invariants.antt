use Rattle.olr_report.proofs.Common.{◌≡◌, drop, place_at, steps_of}
use Rattle.olr_report.proofs.along.place_along.Given as goal

-- the place sought is the one at the distance that is left along the rest
abbrev pub invariant-loop-piece : goal.invariant-loop-piece
invariant-loop-piece l = place_at (steps_of (drop l.piece-index l.pieces)) l.left
    ≡ place_at (steps_of l.pieces) l.fn.distance
