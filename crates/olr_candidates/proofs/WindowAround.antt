-- A line that is near enough to a point meets each window that holds all places so near.
use Rattle.olr_candidates.proofs.Common.{Spot, Near, Coordinates, coordinates_of, IsInRange, spot_of, IsNearest, BoundingBox, RoadLine, Query, polyline_of, x_of, ◌≡◌, ℕ, suc, ◌+◌, ◌*◌, ◌≤◌, List, Some, subst, arith, ℤ, pos, negsuc, ◌+ℤ◌, ◌-ℤ◌, ◌*ℤ◌, ◌≤ℤ◌, ◌<ℤ◌, nat_abs, slice_get, Contains, All, ints, by_lt_z, mul-le, All-contains, slice_get_within, get_or_from_slice_get, MeetsWindow, CoversRadius, distance}
use Rattle.olr_metric.specs.Floor.{floor}
use Rattle.olr_metric.specs.Segment.{foot, IsBetween}
use Rattle.olr_candidates.proofs.Polylines.{place_at}

-- the plane's laws, of one coordinate of spots
abbrev pub FootBetween : (Spot → ℤ) → Type 0
FootBetween of = (p a b : Spot) → IsBetween (of a) (of b) (of (foot p a b))

abbrev pub NoShorter : (Spot → ℤ) → Type 0
NoShorter of = (a b : Spot) → nat_abs (of a -ℤ of b) ≤ distance a b

-- ---- latitudes and the plane

floor_low : (z : ℤ) → (floor z 1000 *ℤ pos 1000) ≤ℤ z
floor_low (pos a) = omega (arith, ints)
floor_low (negsuc a) = omega (arith, ints)

floor_high : (z : ℤ) → z <ℤ (floor z 1000 *ℤ pos 1000 +ℤ pos 1000)
floor_high (pos a) = omega (arith, ints)
floor_high (negsuc a) = omega (arith, ints)

-- what lies no further north in the plane than 100 r from p lies no further north in latitude than
-- 9 r + 1 from it
pub not_north : (lat p o : ℤ) (r : ℕ)
    → floor ((lat -ℤ o) *ℤ pos 11132) 1000 ≤ℤ (floor ((p -ℤ o) *ℤ pos 11132) 1000 +ℤ pos (100 * r))
    → lat ≤ℤ (p +ℤ pos (9 * r + 1))
not_north lat p o r near = omega
    (arith, ints, near, floor_high ((lat -ℤ o) *ℤ pos 11132), floor_low ((p -ℤ o) *ℤ pos 11132))

pub not_south : (lat p o : ℤ) (r : ℕ)
    → (floor ((p -ℤ o) *ℤ pos 11132) 1000 -ℤ pos (100 * r)) ≤ℤ floor ((lat -ℤ o) *ℤ pos 11132) 1000
    → (p -ℤ pos (9 * r + 1)) ≤ℤ lat
not_south lat p o r near = omega
    (arith, ints, near, floor_low ((lat -ℤ o) *ℤ pos 11132), floor_high ((p -ℤ o) *ℤ pos 11132))

-- ---- longitudes and the plane

times_rises : (a b : ℤ) (k : ℕ) → a ≤ℤ b → (a *ℤ pos k) ≤ℤ (b *ℤ pos k)
times_rises (pos a) (pos b) k le = grind (arith, ints, mul-le)
times_rises (pos a) (negsuc b) k le = absurd (omega arith)
times_rises (negsuc a) (pos b) k le = omega (arith, ints)
times_rises (negsuc a) (negsuc b) k le = grind (arith, ints, mul-le)

floor_rises : (z w : ℤ) → z ≤ℤ w → floor z 10000000 ≤ℤ floor w 10000000
floor_rises (pos a) (pos b) le = omega (arith, ints, le)
floor_rises (pos a) (negsuc b) le = absurd (omega arith)
floor_rises (negsuc a) (pos b) le = omega arith
floor_rises (negsuc a) (negsuc b) le = omega (arith, ints, le)

-- the x in the plane doesn't fall where the longitude rises
pub x_rises : (origin : Coordinates) (a b : ℤ) → a ≤ℤ b → x_of origin a ≤ℤ x_of origin b
x_rises origin a b le = grind (arith, floor_rises, times_rises, ints)

-- what is west of an edge is no further east than a longitude whose next one is east of that edge,
-- and the other way round
pub not_east : (origin : Coordinates) (lon bound edge : ℤ) → edge <ℤ x_of origin (bound +ℤ pos 1)
    → x_of origin lon ≤ℤ edge → lon ≤ℤ bound
not_east origin lon bound edge beyond within = by_lt_z _ _
    (λ lt. absurd (omega (
      arith,
      ints,
      x_rises origin (bound +ℤ pos 1) lon (omega (arith, ints, lt)),
      beyond,
      within,
    ))) (λ ge. ge)

pub not_west : (origin : Coordinates) (lon bound edge : ℤ) → x_of origin (bound -ℤ pos 1) <ℤ edge
    → edge ≤ℤ x_of origin lon → bound ≤ℤ lon
not_west origin lon bound edge beyond within = by_lt_z _ _
    (λ lt. absurd (omega (
      arith,
      ints,
      x_rises origin lon (bound -ℤ pos 1) (omega (arith, ints, lt)),
      beyond,
      within,
    ))) (λ ge. ge)

-- ---- lines

member : (points : List Coordinates) (i : ℕ) (p : Coordinates) → slice_get points i ≡ Some p
    → Contains points p
member points i p at = (i, slice_get_within points i p at, get_or_from_slice_get _ i p p at)

-- two places of a line, of which one coordinate in the plane is no greater than a number, and no
-- less
record AreBeside (of : Spot → ℤ) (origin : Coordinates) (line : RoadLine) (f : ℤ) : Type 0 where
  low : Coordinates
  high : Coordinates
  has_low : Contains line.points low
  has_high : Contains line.points high
  no_greater : of (spot_of origin low) ≤ℤ f
  no_less : f ≤ℤ of (spot_of origin high)

-- those beside the nearest spot
beside : (of : Spot → ℤ) → FootBetween of → (origin p : Coordinates) (line : RoadLine) {near : Near}
    → IsNearest (polyline_of origin line) (spot_of origin p) near
    → AreBeside of origin line (of near.spot)
beside of between origin p line is =
    let first = place_at (spot_of origin) line.points is.i is.a is.nearest.segment.start in
    let second = place_at (spot_of origin) line.points (suc is.i) is.b is.nearest.segment.end in
    let lies = subst (λ s. IsBetween (of is.a) (of is.b) (of s)) (cc)
    (between (spot_of origin p) is.a is.b) in
    let first_is : of (spot_of origin first.0) ≡ of is.a = cc in
    let second_is : of (spot_of origin second.0) ≡ of is.b = cc in
    let has_first = member line.points is.i first.0 first.1 in
    let has_second = member line.points (suc is.i) second.0 second.1 in
    by_lt_z (of is.b) (of is.a)
    (λ lt. let inside = lies.1 (omega (arith, ints, lt)) in record {
      low = second.0;
      high = first.0;
      has_low = has_second;
      has_high = has_first;
      no_greater = rw second_is inside.0;
      no_less = rw first_is inside.1;
    })
    (λ ge. let inside = lies.0 ge in record {
      low = first.0;
      high = second.0;
      has_low = has_first;
      has_high = has_second;
      no_greater = rw first_is inside.0;
      no_less = rw second_is inside.1;
    })

up : {a b c : ℤ} → a ≤ℤ b → b ≤ℤ c → a ≤ℤ c
up first second = omega (arith, ints)

below : (a f p : ℤ) (r : ℕ) → nat_abs (p -ℤ f) ≤ r → a ≤ℤ f → a ≤ℤ (p +ℤ pos r)
below a f p r near le = omega (arith, ints, near, le)

above : (a f p : ℤ) (r : ℕ) → nat_abs (p -ℤ f) ≤ r → f ≤ℤ a → (p -ℤ pos r) ≤ℤ a
above a f p r near le = omega (arith, ints, near, le)

itself_below : {p : ℤ} (r : ℕ) → p ≤ℤ (p +ℤ pos r)
itself_below r = omega (arith, ints)

itself_above : {p : ℤ} (r : ℕ) → (p -ℤ pos r) ≤ℤ p
itself_above r = omega (arith, ints)

pub meets_window : FootBetween (λ s. s.x) → FootBetween (λ s. s.y) → NoShorter (λ s. s.x)
    → NoShorter (λ s. s.y)
    → (query : Query) (radius : ℕ) (line : RoadLine) (near : Near) {window : BoundingBox}
    → CoversRadius query radius window → IsInRange (coordinates_of query.point.at)
    → All IsInRange line.points → IsNearest (polyline_of (coordinates_of query.plane) line)
    (spot_of (coordinates_of query.plane) (coordinates_of query.point.at)) near
    → near.distance ≤ 100 * radius → MeetsWindow window line
meets_window between_x between_y shorter_x shorter_y query radius line near covers here
    inside is within =
    let origin = coordinates_of query.plane in
    let point = coordinates_of query.point.at in
    let p = spot_of origin point in
    let r = 100 * radius in
    let xs = beside _ between_x origin point line is in
    let ys = beside _ between_y _ _ line is in
    let close_x : nat_abs (p.x -ℤ near.spot.x) ≤ r = omega (arith, shorter_x p near.spot) in
    let close_y : nat_abs (p.y -ℤ near.spot.y) ≤ r = omega (arith, shorter_y p near.spot) in
    record {
      lats = record {
        band = up (covers.south point here (itself_above r))
            (covers.north point here (itself_below r));
        southern = ys.low;
        northern = ys.high;
        one = ys.has_low;
        other = ys.has_high;
        not_north = covers.north ys.low
            (All-contains IsInRange line.points ys.low inside ys.has_low)
            (below (spot_of origin ys.low).y near.spot.y p.y r close_y ys.no_greater);
        not_south = covers.south ys.high
            (All-contains IsInRange line.points ys.high inside ys.has_high)
            (above (spot_of origin ys.high).y near.spot.y p.y r close_y ys.no_less);
      };
      lons = record {
        band = up (covers.west point here (itself_above r))
            (covers.east point here (itself_below r));
        western = xs.low;
        eastern = xs.high;
        one = xs.has_low;
        other = xs.has_high;
        not_east = covers.east xs.low (All-contains IsInRange line.points xs.low inside xs.has_low)
            (below (spot_of origin xs.low).x near.spot.x p.x r close_x xs.no_greater);
        not_west = covers.west xs.high (All-contains IsInRange line.points xs.high inside
            xs.has_high) (above (spot_of origin xs.high).x near.spot.x p.x r close_x xs.no_less);
      };
    }
