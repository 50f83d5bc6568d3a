use Rattle.std.proofs.Common.{◌≡◌, take}
use Rattle.std.specs.Prelude.{flat_map}
use Rattle.olr_shape.specs.Shape.{coordinates_of_all, spots_of_piece}
use Rattle.olr_shape.proofs.shape.spots_of.Given as goal

-- those of the pieces so far
abbrev pub invariant-loop-piece : goal.invariant-loop-piece
invariant-loop-piece l = coordinates_of_all l.spots.items
    ≡ flat_map (spots_of_piece l.map) (take l.piece-index l.pieces)
