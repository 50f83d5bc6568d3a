-- The spots at the ends of a line.
use Rattle.std.proofs.Common.{◌≡◌, ◌∙◌, ℕ, suc, ◌-◌, ◌<◌, ◌≤◌, ap, arith, refl, sym, length, get_or, Some, pos, ◌+ℤ◌, ℤ, ◌-ℤ◌}
use Rattle.std.proofs.lemmas.Int.{ints}
use Rattle.std.proofs.Math.Nat.{mul-lt-mul_of_pos_right}
use Rattle.std.proofs.lemmas.Nat.{mul-le}
use Rattle.std.proofs.lemmas.Option.{slice_get-get_or}
use Rattle.std.specs.Prelude.{slice_get}
use Rattle.olr_base.specs.Coordinates.{Coordinates}
use Rattle.olr_metric.specs.Polyline.{arc, arc_at}
use Rattle.olr_road.specs.RoadMap.{IsSoundLine, RoadLine}
use Rattle.olr_shape.specs.Laws.{EndsAtLastPoint, PlacesHaveSpots, PlaneLaws, StartsAtFirstPoint}
use Rattle.olr_shape.specs.Position.{arc_of_point, arc_of_position, coordinates_between, polyline_of, spot_at, spot_on}
use Rattle.olr_shape.proofs.Arcs.{arc_all, arc_within, rise}
use Rattle.olr_shape.proofs.Found.{found, has_spot, sought}
use Rattle.olr_shape.proofs.Lines.{length-polyline_of, line_at, sound_at}
use Rattle.olr_shape.proofs.Neighbours.{unlike}
use Rattle.olr_shape.proofs.Segments.{spot_of_segment}
use Rattle.olr_shape.proofs.Shares.{no_share, whole_share}

-- ---- the ends of the way from one number to another

nothing_more : (z : ℤ) → z +ℤ pos 0 ≡ z
nothing_more z = omega (arith, ints)

whole_way : (p q : ℤ) → p +ℤ (q -ℤ p) ≡ q
whole_way p q = omega (arith, ints)

start_of_share : (p q : Coordinates) (whole : ℕ) → 0 < whole → coordinates_between p q 0 whole ≡ p
start_of_share p q whole some =
    let lon = ap (λ (z : ℤ). p.lon +ℤ z) (no_share (q.lon -ℤ p.lon) whole some)
    ∙ nothing_more p.lon in
    let lat = ap (λ (z : ℤ). p.lat +ℤ z) (no_share (q.lat -ℤ p.lat) whole some)
    ∙ nothing_more p.lat in
    λ k. record { lon = lon k; lat = lat k }

end_of_share : (p q : Coordinates) (whole : ℕ) → 0 < whole
    → coordinates_between p q whole whole ≡ q
end_of_share p q whole some =
    let lon = ap (λ (z : ℤ). p.lon +ℤ z) (whole_share (q.lon -ℤ p.lon) whole some)
    ∙ whole_way p.lon q.lon in
    let lat = ap (λ (z : ℤ). p.lat +ℤ z) (whole_share (q.lat -ℤ p.lat) whole some)
    ∙ whole_way p.lat q.lat in
    λ k. record { lon = lon k; lat = lat k }

-- ---- the ends of a line

module _ (laws : PlaneLaws) {nodes : ℕ} (line : RoadLine) (sound : IsSoundLine nodes line) where
  -- a segment has a length
  pub long : (i : ℕ) → suc i < length line.points
      → 0 < arc_of_point line.points line.length (suc i) - arc_of_point line.points line.length i
  long i within =
      let rises = rise laws.distances (polyline_of line.points)
      (unlike laws line.points sound.inside sound.apart) i
      (omega (arith, length-polyline_of line.points)) in
      omega (arith, mul-lt-mul_of_pos_right rises sound.long)

  pub starts : (first : Coordinates) → slice_get line.points 0 ≡ Some first
      → spot_at line.points line.length 0 ≡ Some first
  starts first first_is =
      let second = get_or line.points 1 first in
      let within : 1 < length line.points = omega (arith, sound.points_at_least) in
      let whole = arc_of_point line.points line.length 1 - arc_of_point line.points line.length 0 in
      let part : arc_of_position line.points line.length 0
      - arc_of_point line.points line.length 0 ≡ 0 = omega arith in
      found line.points line.length 0 0 first within
      (sought line.points line.length 0 0 (omega arith) (λ j less. absurd (omega arith)))
      (omega arith) (spot_of_segment line.points line.length 0 0 first second first_is
      (slice_get-get_or line.points 1 first within)
      ∙ ap (λ n. Some (coordinates_between first second n whole)) part
      ∙ ap Some (start_of_share first second whole (long 0 within)))

  -- only the last segment ends at the whole arc
  pub before : (j : ℕ) → suc (suc j) < length line.points
      → arc_at (polyline_of line.points) (suc j) < arc (polyline_of line.points)
  before j within =
      let rises = rise laws.distances (polyline_of line.points)
      (unlike laws line.points sound.inside sound.apart) (suc j)
      (omega (arith, length-polyline_of line.points)) in
      omega (arith, arc_within (polyline_of line.points) (suc (suc j)))

  pub all : (i : ℕ) → suc (suc i) ≡ length line.points
      → arc_at (polyline_of line.points) (suc i) ≡ arc (polyline_of line.points)
  all i count =
      arc_all (polyline_of line.points) (suc i) (omega (arith, length-polyline_of line.points))

  pub ends : (last : Coordinates) (i : ℕ) → suc (suc i) ≡ length line.points
      → slice_get line.points (suc i) ≡ Some last
      → spot_at line.points line.length line.length ≡ Some last
  ends last i count last_is =
      let p = get_or line.points i last in
      let within : suc i < length line.points = omega arith in
      let whole = arc_of_point line.points line.length (suc i)
      - arc_of_point line.points line.length i in
      let part : arc_of_position line.points line.length line.length
      - arc_of_point line.points line.length i ≡ whole = rw (all i count) refl in
      found line.points line.length line.length i last within
      (sought line.points line.length line.length i (omega arith)
      (λ j less. mul-lt-mul_of_pos_right (before j (omega arith)) sound.long))
      (rw (all i count) (omega arith))
      (spot_of_segment line.points line.length line.length i p last
      (slice_get-get_or line.points i last (omega arith)) last_is
      ∙ ap (λ n. Some (coordinates_between p last n whole)) part
      ∙ ap Some (end_of_share p last whole (long i within)))

  -- the last segment reaches each position on the line
  within_line : (at i : ℕ) → suc (suc i) ≡ length line.points → at ≤ line.length
      → (spot : Coordinates) × (spot_at line.points line.length at ≡ Some spot)
  within_line at i count less = has_spot line.points line.length at i (omega arith)
      (rw (all i count) (mul-le _ at _ line.length (omega arith) less))

  -- the last two points
  pub last_two : suc (suc (length line.points - 2)) ≡ length line.points
  last_two = omega (arith, sound.points_at_least)

pub starts_at_first : PlaneLaws → StartsAtFirstPoint
unfolding spot_on
starts_at_first laws road rank line sound line_is =
    let its = sound_at road.lines rank sound.lines.each line_is in
    let first = line_at line.points 0 (omega (arith, its.points_at_least)) in
    rw line_is (starts laws line its first.0 first.1 ∙ sym first.1)

pub ends_at_last : PlaneLaws → EndsAtLastPoint
unfolding spot_on
ends_at_last laws road rank line sound line_is =
    let its = sound_at road.lines rank sound.lines.each line_is in
    let place : suc (length line.points - 2) ≡ length line.points - 1 =
    omega (arith, its.points_at_least) in
    let last = line_at line.points (length line.points - 1) (omega (arith, its.points_at_least)) in
    rw line_is (ends laws line its last.0 (length line.points - 2) (last_two laws line its)
    (rw place last.1) ∙ sym last.1)

pub have_spots : PlaneLaws → PlacesHaveSpots
unfolding spot_on
have_spots laws road place sound on =
    let its = sound_at road.lines place.line sound.lines.each on.at_rank in
    let spot = within_line laws on.line its place.at (length on.line.points - 2)
    (last_two laws on.line its) on.up_to_end in
    (spot.0, rw on.at_rank spot.1)
