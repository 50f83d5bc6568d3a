use Rattle.olr_places.proofs.Common.{Piece, ◌≤◌, ◌<◌, ◌⊎◌, take, All}
use Rattle.olr_places.proofs.cover.next_stretch.Given as goal

abbrev pub invariant-loop-piece : goal.invariant-loop-piece
invariant-loop-piece l = (l.at < l.next) × (l.next ≤ l.end)
    × All (λ (piece : Piece). (l.next ≤ piece.from) ⊎ (piece.to ≤ l.at))
    (take l.piece-index l.pieces)
