-- The points of a line between two positions, as they are gathered.
use Rattle.std.proofs.Common.{◌≡◌, ℕ, ◌+◌, ◌<◌, ◌≤◌, arith, Bool, true, false, cond, List, [], ◌∷◌, ◌++◌, length, get_or, take, map, ap, sym, ◌∙◌, zero-add}
use Rattle.std.proofs.lemmas.List.{append-nil, append_assoc, map_push, take_all}
use Rattle.std.proofs.lemmas.List.Elements.{filter_more}
use Rattle.std.proofs.lemmas.List.FromFn.{get_or-enumerate_from, length-enumerate_from}
use Rattle.std.proofs.lemmas.Option.{get_or_from_slice_get}
use Rattle.std.specs.List.{enumerate_from}
use Rattle.std.specs.Prelude.{filter}
use Rattle.olr_base.specs.Coordinates.{Coordinates, coordinates_of}
use Rattle.olr_base.specs.declared.degrees.Degrees.{Degrees}
use Rattle.olr_road.specs.RoadMap.{RoadLine}
use Rattle.olr_shape.specs.Shape.{is_between, points_between}
use Rattle.olr_shape.proofs.Segments.{point_at}

abbrev pub point_of : ℕ × Coordinates → Coordinates
point_of numbered = numbered.1

module _ (line : RoadLine) (from to : ℕ) where
  -- those among the first n points, with their numbers
  abbrev pub found : ℕ → List (ℕ × Coordinates)
  found n = filter (is_between from to line) (take n (enumerate_from 0 line.points))

  -- and without
  abbrev pub first_between : ℕ → List Coordinates
  first_between n = map point_of (found n)

  pub all_between : (n : ℕ) → length line.points ≤ n
      → first_between n ≡ points_between from to line
  all_between n all =
      let count = length-enumerate_from 0 line.points in
      ap (λ (l : List (ℕ × Coordinates)). map point_of (filter (is_between from to line) l))
      (take_all n (enumerate_from 0 line.points) (omega arith))

  found_more : (n : ℕ) (point : Coordinates) → n < length line.points
      → get_or line.points n point ≡ point → found (n + 1)
      ≡ found n ++ cond (is_between from to line (n, point)) ((n, point) ∷ []) []
  found_more n point within is =
      let all = enumerate_from 0 line.points in
      let count = length-enumerate_from 0 line.points in
      let at : get_or all n (n, point) ≡ (n, point) =
      get_or-enumerate_from 0 line.points n (n, point) within ∙ (λ k. (zero-add n k, is k)) in
      filter_more (is_between from to line) all n (n, point) (omega arith)
      ∙ ap (λ (one : ℕ × Coordinates). found n ++ cond (is_between from to line one) (one ∷ []) [])
      at

  pub kept : (n : ℕ) (point : Coordinates) → n < length line.points
      → get_or line.points n point ≡ point → is_between from to line (n, point) ≡ true
      → first_between (n + 1) ≡ first_between n ++ point ∷ []
  kept n point within is inside = ap (map point_of) (found_more n point within is
      ∙ ap (λ (b : Bool). found n ++ cond b ((n, point) ∷ []) []) inside)
      ∙ map_push point_of (found n) (n, point)

  pub left_out : (n : ℕ) (point : Coordinates) → n < length line.points
      → get_or line.points n point ≡ point → is_between from to line (n, point) ≡ false
      → first_between (n + 1) ≡ first_between n
  left_out n point within is outside = ap (map point_of) (found_more n point within is
      ∙ ap (λ (b : Bool). found n ++ cond b ((n, point) ∷ []) []) outside ∙ append-nil (found n))

  -- ---- as the code reads the points

  module _ (points : List Degrees) (same : map coordinates_of points ≡ line.points) where
    read : (n : ℕ) (point : Degrees) → n < length line.points → point ≡ get_or points n point
        → get_or line.points n (coordinates_of point) ≡ coordinates_of point
    read n point within is = get_or_from_slice_get line.points n (coordinates_of point)
        (coordinates_of point) (point_at points line.points n point same within is)

    pub pushed : (n : ℕ) (point : Degrees) (old shape new : List Degrees)
        → n < length line.points → point ≡ get_or points n point
        → is_between from to line (n, coordinates_of point) ≡ true
        → map coordinates_of shape ≡ map coordinates_of old ++ first_between n
        → new ≡ shape ++ point ∷ []
        → map coordinates_of new ≡ map coordinates_of old ++ first_between (n + 1)
    pushed n point old shape new within is inside so_far new_is =
        let p = coordinates_of point in
        ap (map coordinates_of) new_is ∙ map_push coordinates_of shape point
        ∙ ap (λ (l : List Coordinates). l ++ p ∷ []) so_far
        ∙ append_assoc (map coordinates_of old) (first_between n) (p ∷ [])
        ∙ sym (ap (λ (l : List Coordinates). map coordinates_of old ++ l)
        (kept n p within (read n point within is) inside))

    pub passed : (n : ℕ) (point : Degrees) (old shape : List Degrees)
        → n < length line.points → point ≡ get_or points n point
        → is_between from to line (n, coordinates_of point) ≡ false
        → map coordinates_of shape ≡ map coordinates_of old ++ first_between n
        → map coordinates_of shape ≡ map coordinates_of old ++ first_between (n + 1)
    passed n point old shape within is outside so_far =
        so_far ∙ sym (ap (λ (l : List Coordinates). map coordinates_of old ++ l)
        (left_out n (coordinates_of point) within (read n point within is) outside))
