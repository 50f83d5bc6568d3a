-- The spots of a whole line are its points.
use Rattle.std.proofs.Common.{◌≡◌, ◌∙◌, ℕ, zero, suc, ◌+◌, ◌-◌, ◌<◌, ap, arith, refl, sym, Bool, true, false, List, [], ◌∷◌, ◌++◌, length, get_or, map, take, Some, add-one}
use Rattle.std.proofs.Math.Nat.{mul-lt-mul_of_pos_right}
use Rattle.std.proofs.lemmas.Bool.{le-ltb, lt-ltb}
use Rattle.std.proofs.lemmas.List.{append-nil, map-append, take_all, take_more}
use Rattle.std.proofs.lemmas.Option.{get_or_from_slice_get, slice_get-get_or}
use Rattle.std.specs.Prelude.{◌&&◌, nat_lt, option_map, slice_get}
use Rattle.olr_base.specs.Coordinates.{Coordinates, coordinates_of}
use Rattle.olr_base.specs.declared.degrees.Degrees.{Degrees}
use Rattle.olr_road.specs.RoadMap.{IsSoundLine, IsSoundMap, RoadLine, RoadMap, head_of}
use Rattle.olr_road.specs.declared.line.Line.{Line}
use Rattle.olr_route.specs.declared.piece.Piece.{Piece}
use Rattle.olr_shape.specs.Laws.{PlaneLaws}
use Rattle.olr_shape.specs.Position.{arc_of_point, arc_of_position, polyline_of}
use Rattle.olr_shape.specs.Shape.{coordinates_of_all, is_between, points_between, spots_between, spots_of_piece}
use Rattle.olr_shape.proofs.Between.{all_between, first_between, kept, left_out}
use Rattle.olr_shape.proofs.Ends.{all, before, ends, last_two, long, starts}
use Rattle.olr_shape.proofs.Found.{arc_of_first}
use Rattle.olr_shape.proofs.Lines.{line_at, sound_at, whole_line}

no_and : (b : Bool) → (b && false) ≡ false
no_and true = refl
no_and false = refl

module _ (laws : PlaneLaws) {nodes : ℕ} (line : RoadLine) (sound : IsSoundLine nodes line) where
  abbrev of_point : ℕ → ℕ
  of_point i = arc_of_point line.points line.length i

  abbrev of_position : ℕ → ℕ
  of_position at = arc_of_position line.points line.length at

  abbrev inside : ℕ → Coordinates → Bool
  inside i p = is_between 0 line.length line (i, p)

  abbrev found : ℕ → List Coordinates
  found n = first_between line 0 line.length n

  -- ---- which points lie between

  not_first : (p : Coordinates) → inside 0 p ≡ false
  not_first p =
      let none : nat_lt (of_position 0) (of_point 0) ≡ false =
      le-ltb _ _ (rw (arc_of_first (polyline_of line.points)) (omega arith)) in
      ap (λ (b : Bool). b && nat_lt (of_point 0) (of_position line.length)) none

  middle : (i : ℕ) (p : Coordinates) → suc (suc i) < length line.points
      → inside (suc i) p ≡ true
  middle i p within =
      let behind : nat_lt (of_position 0) (of_point (suc i)) ≡ true =
      lt-ltb _ _ (omega (arith, long laws line sound i (omega arith))) in
      let ahead : nat_lt (of_point (suc i)) (of_position line.length) ≡ true =
      lt-ltb _ _ (mul-lt-mul_of_pos_right (before laws line sound i within) sound.long) in
      λ k. behind k && ahead k

  not_last : (i : ℕ) (p : Coordinates) → suc (suc i) ≡ length line.points
      → inside (suc i) p ≡ false
  not_last i p count =
      let none : nat_lt (of_point (suc i)) (of_position line.length) ≡ false =
      le-ltb _ _ (rw (all laws line sound i count) (omega arith)) in
      ap (λ (b : Bool). nat_lt (of_position 0) (of_point (suc i)) && b) none ∙ no_and _

  -- ---- with the spots at the ends they are all

  module _ (first : Coordinates) (first_is : slice_get line.points 0 ≡ Some first) where
    abbrev point : ℕ → Coordinates
    point i = get_or line.points i first

    read : (i : ℕ) → i < length line.points → get_or line.points i (point i) ≡ point i
    read i within = get_or_from_slice_get line.points i (point i) (point i)
        (slice_get-get_or line.points i first within)

    one_more : (i : ℕ) → i < length line.points
        → take (suc i) line.points ≡ take i line.points ++ point i ∷ []
    one_more i within = ap (λ (n : ℕ). take n line.points) (sym (add-one i))
        ∙ take_more line.points i first within

    -- the first point, and those between among the first of the others
    so_far : (i : ℕ) → suc i < length line.points
        → first ∷ found (suc i) ≡ take (suc i) line.points
    so_far zero within =
        let one : 0 < length line.points = omega arith in
        let starts : point 0 ≡ first =
        get_or_from_slice_get line.points 0 first first first_is in
        ap (λ (l : List Coordinates). first ∷ l)
        (left_out line 0 line.length 0 (point 0) one (read 0 one) (not_first (point 0)))
        ∙ (ap (λ (p : Coordinates). p ∷ []) (sym starts) ∙ sym (one_more 0 one))
    so_far (suc i) within =
        let here : suc i < length line.points = omega arith in
        ap (λ (n : ℕ). first ∷ found n) (sym (add-one (suc i)))
        ∙ (ap (λ (l : List Coordinates). first ∷ l) (kept line 0 line.length (suc i)
        (point (suc i)) here (read (suc i) here) (middle i (point (suc i)) within))
        ∙ (ap (λ (l : List Coordinates). l ++ point (suc i) ∷ []) (so_far i here)
        ∙ sym (one_more (suc i) here)))

    all_found : (i : ℕ) → suc (suc i) ≡ length line.points
        → found (suc i) ≡ points_between 0 line.length line
    all_found i count =
        let here : suc i < length line.points = omega arith in
        sym (left_out line 0 line.length (suc i) (point (suc i)) here (read (suc i) here)
        (not_last i (point (suc i)) count))
        ∙ all_between line 0 line.length (suc i + 1) (omega arith)

    whole : (i : ℕ) → suc (suc i) ≡ length line.points
        → spots_between 0 line.length line ≡ line.points
    whole i count =
        let here : suc i < length line.points = omega arith in
        let start = starts laws line sound first first_is in
        let end = ends laws line sound (point (suc i)) i count
        (slice_get-get_or line.points (suc i) first here) in
        rw (start, end) (ap (λ (l : List Coordinates). first ∷ l ++ point (suc i) ∷ [])
        (sym (all_found i count))
        ∙ (ap (λ (l : List Coordinates). l ++ point (suc i) ∷ []) (so_far i here)
        ∙ (sym (one_more (suc i) here) ∙ take_all (suc (suc i)) line.points (omega arith))))

whole_line_is_its_points : PlaneLaws → (road : RoadMap) (rank : ℕ) (line : RoadLine)
    → IsSoundMap road → slice_get road.lines rank ≡ Some line
    → spots_of_piece road (record { line = rank; from = 0; to = line.length }) ≡ line.points
whole_line_is_its_points laws road rank line sound line_is =
    let its = sound_at road.lines rank sound.lines.each line_is in
    let first = line_at line.points 0 (omega (arith, its.points_at_least)) in
    rw line_is (append-nil (spots_between 0 line.length line)
    ∙ whole laws line its first.0 first.1 (length line.points - 2) (last_two laws line its))

-- ---- as the code appends them

pub appended : PlaneLaws → (road : RoadMap) (piece : Piece) (head : Line)
    (points old new : List Degrees) → IsSoundMap road → piece.line < length road.lines
    → piece.from ≡ 0 → piece.to ≡ head.length
    → option_map head_of (slice_get road.lines piece.line) ≡ Some head
    → option_map (λ l. l.points) (slice_get road.lines piece.line)
    ≡ Some (map coordinates_of points) → new ≡ old ++ points
    → coordinates_of_all new ≡ coordinates_of_all old ++ spots_of_piece road piece
appended laws road piece head points old new sound within start end head_is points_are new_is =
    let at = line_at road.lines piece.line within in
    let line = at.0 in
    let same = whole_line road.lines piece.line line head (map coordinates_of points) at.1 head_is
    points_are in
    let to : piece.to ≡ line.length = end ∙ sym (ap (λ (l : RoadLine). l.length) same) in
    let spots : spots_of_piece road piece ≡ map coordinates_of points =
    (λ k. spots_of_piece road (record { line = piece.line; from = start k; to = to k }))
    ∙ (whole_line_is_its_points laws road piece.line line sound at.1 ∙ ap (λ (l : RoadLine). l.points) same) in
    ap (map coordinates_of) new_is ∙ (map-append coordinates_of old points
    ∙ ap (λ (l : List Coordinates). map coordinates_of old ++ l) (sym spots))
