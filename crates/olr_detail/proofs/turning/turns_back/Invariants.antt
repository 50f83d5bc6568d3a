use Rattle.std.proofs.Common.{◌≡◌, ◌+◌, ℕ, Some, slice_get}
use Rattle.std.specs.Prelude.{◌<◌}
use Rattle.olr_route.specs.declared.piece.Piece.{Piece}
use Rattle.olr_detail.specs.Turning.{TurnsBackAt}
use Rattle.olr_detail.proofs.turning.turns_back.Given as goal

abbrev pub invariant-loop-index : goal.invariant-loop-index
invariant-loop-index l = (k : ℕ) (piece next : Piece) → k + 1 < l.index
    → slice_get l.route k ≡ Some piece → slice_get l.route (k + 1) ≡ Some next
    → TurnsBackAt l.map.lines piece next → ⊥
