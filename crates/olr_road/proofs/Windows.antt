-- The lines of a window, by their bounding boxes, and those of a band.
use Rattle.olr_road.proofs.Common.{Degrees, Coordinates, coordinates_of, IsInRange, BoundingBox, Entry, RoadLine, RoadMap, IsSoundMap, IsSoundLine, line_in, lines_in, HasBoundingBox, ◌≡◌, ℕ, zero, suc, ◌+◌, ◌<◌, ℤ, pos, ◌≤ℤ◌, true, false, List, [], ◌∷◌, ◌++◌, map, length, take, get_or, Some, None, Option, refl, ap, arith, int_lt, neg_ℤ, slice_get, slice_range, All, Contains, IsSomeAnd, AllZip, ints, take_more, map-append, All-weaker, All-contains, bounding_boxes_of, AreInOrder, slice_get-map, slice_get_within, get_or_from_slice_get}
use Rattle.olr_index.specs.Window.{IsSpan, Meets, MeetsAt, IsWindow}
use Rattle.olr_index.specs.declared.window.PlacedLine.{PlacedLine}
use Rattle.olr_index.proofs.ByRank.{placed_from-push, with_bounding_box}
use Rattle.olr_road.specs.Windows.{MeetsBand, MeetsWindow, RankMeetsBand, RankMeetsWindow, IsBandOf, IsWindowOf}
use Rattle.olr_road.proofs.Sets.{entry_at}
use Rattle.olr_road.proofs.Zips.{zip_push}
use Rattle.std.proofs.lemmas.Slice.Zip.{AllZip-left, AllZip-right}

some_and : {X : Type 0} (P : X → Type 0) (o : Option X) → IsSomeAnd o P → (x : X) × (o ≡ Some x)
    × P x
some_and P None has = absurd has
some_and P (Some x) has = (x, refl, has)

-- the other element at a place
zip_left : {A B : Type 0} (R : A → B → Type 0) (xs : List A) (ys : List B) (at : ℕ) (y : B)
    → AllZip R xs ys → slice_get ys at ≡ Some y → (x : A) × (slice_get xs at ≡ Some x) × R x y
zip_left R xs ys at y all is = some_and _ _ (rw is at (AllZip-right R xs ys all at))

zip_right : {A B : Type 0} (R : A → B → Type 0) (xs : List A) (ys : List B) (at : ℕ) (x : A)
    → AllZip R xs ys → slice_get xs at ≡ Some x → (y : B) × (slice_get ys at ≡ Some y) × R x y
zip_right R xs ys at x all is = some_and _ _ (rw is at (AllZip-left R xs ys all at))

-- ---- points and one of their coordinates

point_at : (of : Coordinates → ℤ) (points : List Degrees) (number : ℤ)
    → Contains (map (λ (p : Degrees). of (coordinates_of p)) points) number
    → (place : Coordinates) × Contains (map coordinates_of points) place × (of place ≡ number)
point_at of [] number has = absurd (omega arith)
point_at of (point ∷ points) number (zero, inside, e) = grind arith
point_at of (point ∷ points) number (suc k, inside, e) =
    let deeper = point_at of points number (k, omega arith, e) in
    (deeper.0, (suc deeper.1.0, omega arith, deeper.1.2), deeper.2)

number_at : (of : Coordinates → ℤ) (points : List Degrees) (place : Coordinates)
    → Contains (map coordinates_of points) place
    → Contains (map (λ (p : Degrees). of (coordinates_of p)) points) (of place)
number_at of [] place has = absurd (omega arith)
number_at of (point ∷ points) place (zero, inside, e) = (0, omega arith, ap of e)
number_at of (point ∷ points) place (suc k, inside, e) =
    let deeper = number_at of points place (k, omega arith, e) in
    (suc deeper.0, omega arith, deeper.2)

-- the coordinate of a place lies within the span of those of all
between : (of : Coordinates → ℤ) (points : List Degrees) (least greatest : ℤ) (place : Coordinates)
    → IsSpan (map (λ (p : Degrees). of (coordinates_of p)) points) least greatest
    → Contains (map coordinates_of points) place → (least ≤ℤ of place) × (of place ≤ℤ greatest)
between of points least greatest place is has =
    All-contains (λ (number : ℤ). (least ≤ℤ number) × (number ≤ℤ greatest)) _ _ is.within
    (number_at of _ _ has)

up : (a b c : ℤ) → a ≤ℤ b → b ≤ℤ c → a ≤ℤ c
up a b c first second = omega (arith, ints)

-- ---- bounding boxes that meet a window

meets_window : (points : List Degrees) (entry : Entry) {bounding_box window : BoundingBox}
    → window.south ≤ℤ window.north → window.west ≤ℤ window.east → HasBoundingBox points entry
    bounding_box → Meets window bounding_box → MeetsWindow window (line_in points entry)
meets_window points entry lats lons is meets =
    let part = slice_range points entry.start entry.end in
    let south = point_at (λ (c : Coordinates). c.lat) _ _ is.lats.least_is in
    let north = point_at (λ (c : Coordinates). c.lat) _ _ is.lats.greatest_is in
    let west = point_at (λ (c : Coordinates). c.lon) _ _ is.lons.least_is in
    let east = point_at (λ (c : Coordinates). c.lon) _ _ is.lons.greatest_is in
    record {
      lats = record {
        band = lats;
        southern = south.0;
        northern = north.0;
        one = south.1;
        other = north.1;
        not_north = rw south.2 meets.not_north;
        not_south = rw north.2 meets.not_south;
      };
      lons = record {
        band = lons;
        western = west.0;
        eastern = east.0;
        one = west.1;
        other = east.1;
        not_east = rw west.2 meets.not_east;
        not_west = rw east.2 meets.not_west;
      };
    }

bounding_box_meets : (points : List Degrees) (entry : Entry) {bounding_box window : BoundingBox}
    → HasBoundingBox points entry bounding_box → MeetsWindow window (line_in points entry)
    → Meets window bounding_box
bounding_box_meets points entry is meets =
    let part = slice_range points entry.start entry.end in
    let south = between (λ (c : Coordinates). c.lat) _ _ _ _ is.lats meets.lats.one in
    let north = between (λ (c : Coordinates). c.lat) _ _ _ _ is.lats meets.lats.other in
    let west = between (λ (c : Coordinates). c.lon) _ _ _ _ is.lons meets.lons.one in
    let east = between (λ (c : Coordinates). c.lon) _ _ _ _ is.lons meets.lons.other in
    record {
      not_north = up _ _ _ south.0 meets.lats.not_north;
      not_south = up _ _ _ meets.lats.not_south north.1;
      not_east = up _ _ _ west.0 meets.lons.not_east;
      not_west = up _ _ _ meets.lons.not_west east.1;
    }

line_at : (points : List Degrees) (entries : List Entry) (rank : ℕ) (entry : Entry)
    → slice_get entries rank ≡ Some entry
    → slice_get (lines_in points entries) rank ≡ Some (line_in points entry)
line_at points entries rank entry is = cc (slice_get-map (line_in points) entries rank)

rank_meets : (points : List Degrees) (entries : List Entry) (bounding_boxes : List BoundingBox)
    (window : BoundingBox) (rank : ℕ) → window.south ≤ℤ window.north → window.west ≤ℤ window.east
    → AllZip (HasBoundingBox points) entries bounding_boxes → MeetsAt bounding_boxes window rank
    → RankMeetsWindow (lines_in points entries) window rank
rank_meets points entries bounding_boxes window rank lats lons placed meets =
    let found = some_and _ _ meets in
    let there = zip_left _ _ _ _ _ placed found.1 in (
      line_in points there.0,
      line_at _ entries rank _ there.1,
      meets_window points there.0 lats lons there.2 found.2,
    )

bounding_box_at : (points : List Degrees) (entries : List Entry) (bounding_boxes : List BoundingBox)
    (window : BoundingBox) (rank : ℕ) → AllZip (HasBoundingBox points) entries bounding_boxes
    → RankMeetsWindow (lines_in points entries) window rank → MeetsAt bounding_boxes window rank
bounding_box_at points entries bounding_boxes window rank placed meets =
    let found = entry_at _ _ rank _ meets.1 in
    let there = zip_right _ _ _ _ _ placed found.1 in
    rw there.1 (bounding_box_meets points found.0 there.2 (rw found.2 meets.2))

pub window_of : (points : List Degrees) (entries : List Entry) (bounding_boxes : List BoundingBox)
    (window : BoundingBox) (ranks : List ℕ) → window.south ≤ℤ window.north → window.west ≤ℤ
    window.east
    → AllZip (HasBoundingBox points) entries bounding_boxes → IsWindow bounding_boxes window ranks
    → IsWindowOf (lines_in points entries) window ranks
window_of points entries bounding_boxes window ranks lats lons placed is = record {
  once = is.once;
  only = All-weaker (MeetsAt bounding_boxes window)
      (RankMeetsWindow (lines_in points entries) window)
      (λ rank meets. rank_meets _ _ _ _ _ lats lons placed meets) _ is.only;
  each = λ rank meets. is.each rank (bounding_box_at _ _ _ _ _ placed meets);
}

-- a window that ends before it begins
nothing_meets : {lines : List RoadLine} {window : BoundingBox}
    → ((line : RoadLine) → MeetsWindow window line → ⊥) → IsWindowOf lines window []
nothing_meets none = record {
  once = λ i j d less inside. absurd (omega arith);
  only = λ k d inside. absurd (omega arith);
  each = λ rank meets. absurd (none meets.0 meets.2);
}

pub no_latitude : {lines : List RoadLine} {window : BoundingBox}
    → (window.south ≤ℤ window.north → ⊥) → IsWindowOf lines window []
no_latitude empty = nothing_meets (λ line meets. empty meets.lats.band)

pub no_longitude : {lines : List RoadLine} {window : BoundingBox} → (window.west ≤ℤ window.east → ⊥)
    → IsWindowOf lines window []
no_longitude empty = nothing_meets (λ line meets. empty meets.lons.band)

pub in_order : (low high : ℤ) → int_lt high low ≡ false → low ≤ℤ high
in_order low high e = omega (arith, ints)

pub out_of_order : {low high : ℤ} → int_lt high low ≡ true → low ≤ℤ high → ⊥
out_of_order e le = omega (arith, ints)

-- ---- one line more, with its bounding box

pub in_order_more : (lines more : List PlacedLine) (rank : ℕ) (bounding_box : BoundingBox)
    → more ≡ lines ++ with_bounding_box rank bounding_box ∷ [] → rank ≡ length
    (bounding_boxes_of lines) → AreInOrder lines → AreInOrder more
in_order_more lines more rank bounding_box is place before =
    grind (arith, map-append, with_bounding_box, placed_from-push)

pub bounding_boxes_more : (points : List Degrees) (entries : List Entry) (i : ℕ) (d : Entry)
    (lines more : List PlacedLine) (rank : ℕ) (bounding_box : BoundingBox) → i < length entries
    → more ≡ lines ++ with_bounding_box rank bounding_box ∷ [] → HasBoundingBox points
    (get_or entries i d) bounding_box
    → AllZip (HasBoundingBox points) (take i entries) (bounding_boxes_of lines)
    → AllZip (HasBoundingBox points) (take (i + 1) entries) (bounding_boxes_of more)
bounding_boxes_more points entries i d lines more rank bounding_box inside is has before =
    let bounding_boxes : bounding_boxes_of more ≡ bounding_boxes_of lines ++ bounding_box ∷ [] =
    cc (map-append (λ (line : PlacedLine). line.bounding_box) lines
    (with_bounding_box rank bounding_box ∷ [])) in
    rw bounding_boxes (rw (take_more _ i d inside) (zip_push _ _ _ _ _ before has))

-- ---- bands, which are windows of all longitudes

-- the window of a band
abbrev pub wide : ℤ → ℤ → BoundingBox
wide low high = record {
  south = low;
  north = high;
  west = neg_ℤ (pos 180000000);
  east = pos 180000000;
}

sound_line : (nodes : ℕ) (lines : List RoadLine) (rank : ℕ) (line : RoadLine)
    → All (IsSoundLine nodes) lines → slice_get lines rank ≡ Some line → IsSoundLine nodes line
sound_line nodes lines rank line all at = rw (← (get_or_from_slice_get lines rank _ line at))
    (all rank line (slice_get_within lines rank line at))

-- a line that meets a band meets its window: any of its points will do
meets_wide : {nodes : ℕ} (line : RoadLine) {low high : ℤ} → IsSoundLine nodes line
    → MeetsBand low high line → MeetsWindow (wide low high) line
meets_wide line sound meets =
    let range = All-contains IsInRange line.points meets.southern sound.inside meets.one in
    record {
      lats = meets;
      lons = record {
        band = omega arith;
        western = meets.southern;
        eastern = meets.southern;
        one = meets.one;
        other = meets.one;
        not_east = range.lon.east;
        not_west = range.lon.west;
      };
    }

pub band_of : (road : RoadMap) (low high : ℤ) (ranks : List ℕ) → IsSoundMap road
    → IsWindowOf road.lines (wide low high) ranks → IsBandOf road.lines low high ranks
band_of road low high ranks sound is = record {
  once = is.once;
  only = All-weaker (RankMeetsWindow road.lines (wide low high)) (RankMeetsBand road.lines low high)
      (λ rank meets. (meets.0, meets.1, meets.2.lats)) ranks is.only;
  each = λ rank meets. is.each rank
      (meets.0, meets.1, meets_wide _ (sound_line _ _ _ _ sound.lines.each meets.1) meets.2);
}
