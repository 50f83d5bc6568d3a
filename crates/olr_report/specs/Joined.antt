-- The joined route of legs, and a part of a route: lists of pieces that have no empty piece and no
-- piece that could have been joined to the one before. (The joined route is this project's choice.)
use Rattle.std.specs.Prelude.{◌≡◌, ℕ, ◌<◌, ◌≤◌, ⊤, List, [], ◌∷◌, All, slice_range}
use Rattle.olr_report.specs.Common.{Leg, Piece}
use Rattle.olr_report.specs.Steps.{Step, steps_of, steps_of_legs}

-- the piece doesn't go backwards on its line; it may be empty
abbrev pub IsForwards : Piece → Type 0
IsForwards piece = piece.from ≤ piece.to

-- no piece of these legs goes backwards
abbrev pub AreForwards : List Leg → Type 0
AreForwards legs = All (λ (leg : Leg). All IsForwards leg.route) legs

-- the piece drives a decimetre or more
abbrev pub IsNotEmpty : Piece → Type 0
IsNotEmpty piece = piece.from < piece.to

-- the second piece begins where the first one ends, on the same line
pub record Touches (first second : Piece) : Type 0 where
  pub same_line : first.line ≡ second.line
  pub same_position : first.to ≡ second.from

-- no two neighbours touch
abbrev pub AreApart : List Piece → Type 0
AreApart [] = ⊤
AreApart (piece ∷ []) = ⊤
AreApart (piece ∷ next ∷ rest) = (Touches piece next → ⊥) × AreApart (next ∷ rest)

-- no piece is empty, and no two neighbours touch
pub record IsJoined (pieces : List Piece) : Type 0 where
  pub not_empty : All IsNotEmpty pieces
  pub apart : AreApart pieces

-- the joined pieces that have these steps; there is one list of them at most
pub record IsRouteOver (steps : List Step) (pieces : List Piece) : Type 0 where
  pub joined : IsJoined pieces
  pub steps_are : steps_of pieces ≡ steps

-- the joined route of legs
abbrev pub IsJoinedRoute : List Leg → List Piece → Type 0
IsJoinedRoute legs pieces = IsRouteOver (steps_of_legs legs) pieces

-- the trimmed part of steps from one distance to another, in decimetres: the joined pieces of the
-- steps numbered `start` to `end - 1`, from 0
abbrev pub IsTrimmedPart : List Step → ℕ → ℕ → List Piece → Type 0
IsTrimmedPart steps start end part = IsRouteOver (slice_range steps start end) part
