-- The steps of a route: the decimetres that it drives, in order. Two lists of pieces drive the same
-- route exactly where they have the same steps, however it is cut into pieces. (The steps are this
-- project's definition.) Positions are in decimetres from the start of a line.
use Rattle.std.specs.Prelude.{ℕ, zero, suc, ◌+◌, List, Option, map, option_map, slice_get}
use Rattle.std.specs.List.{flat_map, range_with_len}
use Rattle.olr_report.specs.Common.{Leg, Piece, Place}
use Rattle.olr_route.specs.Walk.{piece_length}

-- a step on a line, from the position `at` to the next one
pub record Step : Type 0 where
  pub line : ℕ
  pub at : ℕ

-- the steps of a piece, one for each decimetre from its first position to its last one
abbrev pub steps_in : Piece → List Step
steps_in piece = map (λ (at : ℕ). record { line = piece.line; at = at })
    (range_with_len piece.from (piece_length piece))

-- the steps of pieces, one piece after the other
abbrev pub steps_of : List Piece → List Step
steps_of pieces = flat_map steps_in pieces

-- the steps of the routes of legs, one leg after the other
abbrev pub steps_of_legs : List Leg → List Step
steps_of_legs legs = flat_map (λ (leg : Leg). steps_of leg.route) legs

-- the place where a step begins
abbrev pub start_of : Step → Place
start_of step = record { line = step.line; at = step.at }

-- the place where it ends
abbrev pub end_of : Step → Place
end_of step = record { line = step.line; at = step.at + 1 }

-- The place at a distance along steps: the end of the step before it, at distance 0 the start of
-- the first step. None past the last step.
abbrev pub place_at : List Step → ℕ → Option Place
place_at steps zero = option_map start_of (slice_get steps 0)
place_at steps (suc before) = option_map end_of (slice_get steps before)
