-- Stretches of a route that a walk may miss. Steps are decimetres of lines.
use Rattle.std.specs.Prelude.{◌≡◌, ℕ, ◌+◌, ◌-◌, ◌<◌, ◌≤◌, ◌⊎◌, false, List, length, take, slice_get, slice_range, Some, All}
use Rattle.std.specs.List.{sum_by}
use Rattle.olr_places.specs.Missing.{covers}
use Rattle.olr_report.specs.Steps.{Step, steps_of}
use Rattle.olr_road.specs.declared.place.Place.{Place}
use Rattle.olr_route.specs.Walk.{piece_length}
use Rattle.olr_route.specs.declared.piece.Piece.{Piece}

-- how many neighbouring steps of a leg's route another walk has to miss
abbrev pub least_missed : ℕ
least_missed = 200

-- so many steps of a route, from the step of this number on, counted from 0
abbrev pub stretch_from : List Piece → ℕ → List Step
stretch_from route start = slice_range (steps_of route) start (start + least_missed)

-- The route has so many steps from this one on, and none of them is a step of the pieces.
pub record AreMissedFrom (pieces route : List Piece) (start : ℕ) : Type 0 where
  pub within : start + least_missed ≤ length (steps_of route)
  pub missed : All (λ (step : Step). covers pieces step ≡ false) (stretch_from route start)

-- a position on a piece: where it begins, or that of a place on it
abbrev pub IsBeginOn : Place → Piece → ℕ → Type 0
IsBeginOn to piece at = (at ≡ piece.from)
    ⊎ ((piece.line ≡ to.line) × (at ≡ to.at) × (piece.from < to.at) × (to.at < piece.to))

-- The number of the step of a route at which one of its pieces begins, or that begins at a place.
pub record IsStart (to : Place) (route : List Piece) (start : ℕ) : Type 0 where
  pub index : ℕ
  pub piece : Piece
  pub at : ℕ
  pub piece_is : slice_get route index ≡ Some piece
  pub begins : IsBeginOn to piece at
  pub start_is : start ≡ sum_by piece_length (take index route) + (at - piece.from)
