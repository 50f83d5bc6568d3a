-- What is kept of a matching so that others can be compared with it.
use Rattle.std.specs.Prelude.{◌≡◌, List, []}
use Rattle.std.specs.List.Sorted.{IsNonDecreasingBy}
use Rattle.olr_route.specs.declared.piece.Piece.{Piece}
use Rattle.olr_report.specs.Steps.{Step}
use Rattle.olr_places.specs.Closeness.{Ground, line, point}
use Rattle.olr_places.specs.Missing.{covers}
use Rattle.olr_places.specs.declared.cover.Cover.{Cover}

-- the pieces of the outer part of a line; a point has none
abbrev pub outer_of : Ground → List Piece
outer_of (line pieces) = pieces
outer_of (point earliest latest) = []

-- pieces by rising line, which cover the same steps as others
pub record IsCoverOf (pieces : List Piece) (cover : Cover) : Type 0 where
  pub rises : IsNonDecreasingBy (λ (piece : Piece). piece.line) cover.pieces.items
  pub same : (step : Step) → covers cover.pieces.items step ≡ covers pieces step
