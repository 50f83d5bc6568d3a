-- The segments of a line, and the spot on one.
use Rattle.std.proofs.Common.{◌≡◌, ℕ, zero, suc, ◌+◌, ◌-◌, ◌<◌, ◌≤◌, arith, List, [], ◌∷◌, length, get_or, map, Some, ap, sym, ◌∙◌}
use Rattle.std.proofs.Math.Nat.{mul-lt-mul_of_pos_right}
use Rattle.std.proofs.lemmas.List.{length-map}
use Rattle.std.proofs.lemmas.Option.{none-some, same_Some, slice_get-get_or, slice_get-map}
use Rattle.std.specs.Prelude.{option_map, slice_get}
use Rattle.olr_base.specs.Coordinates.{Coordinates, coordinates_of}
use Rattle.olr_base.specs.declared.degrees.Degrees.{Degrees}
use Rattle.olr_road.specs.RoadMap.{RoadLine}
use Rattle.olr_shape.specs.Position.{arc_of_point, segments_from, spot_within}
use Rattle.olr_shape.specs.inner.Measured.{IsMeasurable}

-- each segment of a line that is measured is longer than 0
pub segment_rises : (line : RoadLine) (i : ℕ) → IsMeasurable line → suc i < length line.points
    → arc_of_point line.points line.length i < arc_of_point line.points line.length (suc i)
segment_rises line i is within =
    mul-lt-mul_of_pos_right (is.rise i within) (omega (arith, is.long))

-- segment i runs from point i to the next; the first of them has number n
pub segment_of : (n : ℕ) (points : List Coordinates) (i j : ℕ) (p q : Coordinates) → j ≡ n + i
    → slice_get points i ≡ Some p → slice_get points (suc i) ≡ Some q
    → slice_get (segments_from n points) i ≡ Some (record { number = j; p = p; q = q })
segment_of n [] i j p q is start end = absurd (none-some p start)
segment_of n (x ∷ []) i j p q is start end = absurd (none-some q end)
segment_of n (x ∷ y ∷ rest) zero j p q is start end =
    let number : n ≡ j = omega arith in
    let first = same_Some x p start in
    let second = same_Some y q end in
    λ k. Some (record { number = number k; p = first k; q = second k })
segment_of n (x ∷ y ∷ rest) (suc i) j p q is start end =
    segment_of (suc n) (y ∷ rest) i j p q (omega arith) start end

-- the spot of a position on it
pub spot_of_segment : (points : List Coordinates) (length at i : ℕ) (p q : Coordinates)
    → slice_get points i ≡ Some p → slice_get points (suc i) ≡ Some q
    → option_map (spot_within points length at) (slice_get (segments_from 0 points) i)
    ≡ Some (spot_within points length at (record { number = i; p = p; q = q }))
spot_of_segment points length at i p q start end =
    ap (option_map (spot_within points length at))
    (segment_of 0 points i i p q (omega arith) start end)

-- points have one segment less
pub length-segments_from : (n : ℕ) (points : List Coordinates)
    → length (segments_from n points) ≤ length points - 1
length-segments_from n [] = omega arith
length-segments_from n (x ∷ []) = omega arith
length-segments_from n (x ∷ y ∷ rest) = omega (arith, length-segments_from (suc n) (y ∷ rest))

-- ---- the spot, as the code computes it

-- the coordinates of a point that is read
pub point_at : (points : List Degrees) (line : List Coordinates) (i : ℕ) (point : Degrees)
    → map coordinates_of points ≡ line → i < length line → point ≡ get_or points i point
    → slice_get line i ≡ Some (coordinates_of point)
point_at points line i point same within is =
    let count : length points ≡ length line =
    sym (length-map points coordinates_of) ∙ ap length same in
    let at : slice_get points i ≡ Some point =
    slice_get-get_or points i point (omega arith) ∙ ap (λ (d : Degrees). Some d) (sym is) in
    sym (ap (λ (l : List Coordinates). slice_get l i) same) ∙ slice_get-map coordinates_of points i
    ∙ ap (option_map coordinates_of) at
