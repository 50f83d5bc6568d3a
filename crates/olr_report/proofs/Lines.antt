-- The lines of joined routes, trimmed parts and places are those of the pieces of the legs.
use Rattle.olr_report.proofs.Common.{IsJoinedRoute, IsNotEmpty, IsRouteOver, Leg, Line, Piece, Place, PointAlong, Reference, RoadMap, ◌≡◌, ℕ, zero, suc, ◌-◌, ◌<◌, List, [], ◌∷◌, ◌++◌, length, map, drop, slice_get, Option, Some, None, All, option_map, refl, subst, ap, ◌∙◌, arith, slice_range, All-nil, All-cons, All-head, All-tail, All-append, All-same, All-take, All-drop, same_Some, none-some, HasLine, HasPieces, HasPart, HasLocation, IsLocation, IsPartBetween, LocatedLine, LocatedPoint, LocatedValue, Step, steps_in, steps_of, steps_of_legs, start_of, end_of, place_at, range_with_len}

module _ (road : RoadMap) where
  abbrev IsStepOn : Step → Type 0
  IsStepOn step = HasLine road step.line

  abbrev IsPieceOn : Piece → Type 0
  IsPieceOn piece = HasLine road piece.line

  abbrev pub IsLegOn : Leg → Type 0
  IsLegOn leg = HasPieces road leg.route

  -- the steps lie on lines of the map
  abbrev HasSteps : List Step → Type 0
  HasSteps steps = All IsStepOn steps

  -- ---- from pieces to steps

  on_line : (line : ℕ) (positions : List ℕ) → HasLine road line
      → HasSteps (map (λ at. record { line = line; at = at }) positions)
  on_line line [] has = All-nil IsStepOn
  on_line line (at ∷ positions) has = All-cons IsStepOn _ _ has (on_line line positions has)

  steps_of_pieces : (pieces : List Piece) → HasPieces road pieces → HasSteps (steps_of pieces)
  steps_of_pieces [] has = All-nil IsStepOn
  steps_of_pieces (piece ∷ pieces) has =
      let first = on_line piece.line (range_with_len piece.from (piece.to - piece.from))
      (All-head IsPieceOn piece pieces has) in
      All-append IsStepOn (steps_in piece) (steps_of pieces) first
      (steps_of_pieces pieces (All-tail IsPieceOn piece pieces has))

  steps_of_all : (legs : List Leg) → All IsLegOn legs → HasSteps (steps_of_legs legs)
  steps_of_all [] has = All-nil IsStepOn
  steps_of_all (leg ∷ legs) has =
      let first = steps_of_pieces leg.route (All-head IsLegOn leg legs has) in
      All-append IsStepOn (steps_of leg.route) (steps_of_legs legs) first
      (steps_of_all legs (All-tail IsLegOn leg legs has))

  -- ---- from steps to pieces

  -- a piece that isn't empty has a step
  first_line : (line from count : ℕ) (rest : List Step) → 0 < count
      → HasSteps (map (λ at. record { line = line; at = at }) (range_with_len from count) ++ rest)
      → HasLine road line
  first_line line from zero rest some has = absurd (omega arith)
  first_line line from (suc count) rest some has = All-head IsStepOn _ _ has

  behind : (front rest : List Step) → HasSteps (front ++ rest) → HasSteps rest
  behind [] rest has = has
  behind (step ∷ front) rest has = behind front rest (All-tail IsStepOn step (front ++ rest) has)

  pieces_of_steps : (pieces : List Piece) → All IsNotEmpty pieces → HasSteps (steps_of pieces)
      → HasPieces road pieces
  pieces_of_steps [] some has = All-nil IsPieceOn
  pieces_of_steps (piece ∷ pieces) some has =
      let drives : piece.from < piece.to = All-head IsNotEmpty piece pieces some in
      let first = first_line piece.line piece.from (piece.to - piece.from) (steps_of pieces)
      (omega arith) has in
      All-cons IsPieceOn piece pieces first
      (pieces_of_steps pieces (All-tail IsNotEmpty piece pieces some)
      (behind (steps_in piece) (steps_of pieces) has))

  route_over : (steps : List Step) (pieces : List Piece) → HasSteps steps → IsRouteOver steps pieces
      → HasPieces road pieces
  route_over steps pieces has is = pieces_of_steps pieces is.joined.not_empty
      (All-same IsStepOn (steps_of pieces) steps is.steps_are has)

  -- ---- a part of the steps, and a place on them

  part_of : (steps : List Step) (before behind : ℕ) (part : Option (List Piece)) → HasSteps steps
      → IsPartBetween steps before behind part → HasPart road part
  part_of steps before behind None has is = tt
  part_of steps before behind (Some part) has is =
      let dropped = All-drop IsStepOn before steps has in
      let taken = All-take IsStepOn (length steps - behind - before) (drop before steps) dropped in
      route_over (slice_range steps before (length steps - behind)) part taken is.1

  -- a place of a step lies on the line of that step
  at_step : (of : Step → Place) → ((step : Step) → step.line ≡ (of step).line)
      → (steps : List Step) (index : ℕ) (place : Place)
      → HasSteps steps → option_map of (slice_get steps index) ≡ Some place
      → HasLine road place.line
  at_step of keeps [] index place has is = absurd (none-some place is)
  at_step of keeps (step ∷ steps) zero place has is =
      let line_is = keeps step ∙ ap (λ (p : Place). p.line) (same_Some (of step) place is) in
      subst (λ (line : ℕ). HasLine road line) line_is (All-head IsStepOn step steps has)
  at_step of keeps (step ∷ steps) (suc index) place has is =
      at_step of keeps steps index place (All-tail IsStepOn step steps has) is

  place_on : (steps : List Step) (distance : ℕ) (place : Place) → HasSteps steps
      → place_at steps distance ≡ Some place → HasLine road place.line
  place_on steps zero place has is = at_step start_of (λ step. refl) steps 0 place has is
  place_on steps (suc before) place has is = at_step end_of (λ step. refl) steps before place has is

  -- ---- the joined route and the location

  pub route_of : (legs : List Leg) (pieces : List Piece) → All IsLegOn legs
      → IsJoinedRoute legs pieces → HasPieces road pieces
  route_of legs pieces has is = route_over (steps_of_legs legs) pieces (steps_of_all legs has) is

  pub location_of : (legs : List Leg) (reference : Reference) (located : LocatedValue)
      → All IsLegOn legs → IsLocation legs reference located → HasLocation road located
  location_of legs (Line points positive negative) (LocatedLine outer inner) has is =
      let steps = steps_of_all legs has in (
        part_of (steps_of_legs legs) _ _ outer steps is.outer_part,
        part_of (steps_of_legs legs) _ _ inner steps is.inner_part,
      )
  location_of legs (PointAlong points orientation side positive) (LocatedPoint earliest latest) has
      is =
      let steps = steps_of_all legs has in (
        place_on (steps_of_legs legs) _ earliest steps is.earliest_place,
        place_on (steps_of_legs legs) _ latest steps is.latest_place,
      )
  location_of legs _ _ has is = absurd is
