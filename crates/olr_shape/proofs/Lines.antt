-- Lines that are measured.
use Rattle.std.proofs.Common.{◌≡◌, ℕ, zero, suc, ◌<◌, arith, All, List, [], ◌∷◌, length, map, Some, get_or, refl, sym, subst, ap, ◌∙◌}
use Rattle.std.proofs.lemmas.List.{length-map}
use Rattle.std.proofs.lemmas.Option.{get_or_from_slice_get, same_Some, slice_get_within}
use Rattle.std.specs.Prelude.{option_map, slice_get}
use Rattle.olr_base.specs.Coordinates.{Coordinates, coordinates_of}
use Rattle.olr_base.specs.declared.degrees.Degrees.{Degrees}
use Rattle.olr_metric.specs.Plane.{spot_of}
use Rattle.olr_metric.specs.declared.spot.Spot.{Spot}
use Rattle.olr_road.specs.RoadMap.{IsSoundLine, RoadLine, head_of, line_of}
use Rattle.olr_road.specs.declared.line.Line.{Line}
use Rattle.olr_shape.specs.Position.{polyline_of}
use Rattle.olr_shape.specs.inner.Measured.{AreArcs, IsMeasured}

-- ---- the line of a rank

-- there is one
pub line_at : {X : Type 0} (lines : List X) (rank : ℕ) → rank < length lines
    → (line : X) × (slice_get lines rank ≡ Some line)
line_at [] rank within = absurd (omega arith)
line_at (line ∷ rest) zero within = (line, refl)
line_at (line ∷ rest) (suc rank) within = line_at rest rank (omega arith)

-- it is sound
pub sound_at : {nodes : ℕ} (lines : List RoadLine) (rank : ℕ) {line : RoadLine}
    → All (IsSoundLine nodes) lines → slice_get lines rank ≡ Some line → IsSoundLine nodes line
sound_at lines rank {line = line} all at = rw (← (get_or_from_slice_get lines rank _ line at))
    (all rank line (slice_get_within lines rank line at))

-- it is what its head and its points make
pub whole_line : (lines : List RoadLine) (rank : ℕ) (line : RoadLine) (head : Line)
    (points : List Coordinates) → slice_get lines rank ≡ Some line
    → option_map head_of (slice_get lines rank) ≡ Some head
    → option_map (λ l. l.points) (slice_get lines rank) ≡ Some points
    → line ≡ line_of head points
whole_line lines rank line head points at head_is points_are =
    let is : head ≡ head_of line = sym (cc) in
    let are : points ≡ line.points = sym (cc) in
    rw (is, are) refl

-- ---- its polyline

-- its origin is the first point
pub polyline_is : (points : List Coordinates) (first : Coordinates)
    → slice_get points 0 ≡ Some first → polyline_of points ≡ map (spot_of first) points
polyline_is [] first is = refl
polyline_is (x ∷ rest) first is =
    ap (λ (origin : Coordinates). map (spot_of origin) (x ∷ rest)) (same_Some x first is)

-- it has as many spots as there are points
pub length-polyline_of : (points : List Coordinates) → length (polyline_of points) ≡ length points
length-polyline_of [] = refl
length-polyline_of (x ∷ rest) = length-map (x ∷ rest) (spot_of x)

-- ---- as the code measures it

-- the first point, as it is read
first_at : (points : List Degrees) (first : Degrees) → 0 < length points
    → first ≡ get_or points 0 first
    → slice_get (map coordinates_of points) 0 ≡ Some (coordinates_of first)
first_at [] first some is = absurd (omega arith)
first_at (x ∷ rest) first some is = ap (λ (d : Degrees). Some (coordinates_of d)) (sym is)

-- the arcs of spots, of which these are the line's
measured_arcs : {nodes : ℕ} (line : RoadLine) (spots : List Spot) (arcs : List ℕ)
    → IsSoundLine nodes line → spots ≡ polyline_of line.points → AreArcs spots arcs
    → IsMeasured line arcs
measured_arcs line spots arcs sound same are =
    let count = length-polyline_of line.points in
    let its : AreArcs (polyline_of line.points) arcs =
    subst (λ (s : List Spot). AreArcs s arcs) same are in
    record {
      measurable = record {
        at_least = sound.points_at_least;
        rise = λ i within. its.rise i (omega arith);
        long = sound.long;
        short = sound.short;
      };
      arcs_are = its;
    }

-- the arcs of the spots that are computed, in the plane at the point that is read
pub is_measured : {nodes : ℕ} (line : RoadLine) (head : Line) (points : List Degrees)
    (first plane : Degrees) (items spots : List Spot) (arcs : List ℕ) → IsSoundLine nodes line
    → line ≡ line_of head (map coordinates_of points) → first ≡ get_or points 0 first
    → plane ≡ first → items ≡ map (spot_of (coordinates_of plane)) line.points → spots ≡ items
    → AreArcs spots arcs → IsMeasured (line_of head (map coordinates_of points)) arcs
is_measured line head points first plane items spots arcs sound is first_is on_first are same of =
    let count = length-map points coordinates_of in
    let its : line.points ≡ map coordinates_of points = ap (λ (l : RoadLine). l.points) is in
    let some : 0 < length points = omega (arith, ap length its, sound.points_at_least) in
    let start : slice_get line.points 0 ≡ Some (coordinates_of first) =
    rw its (first_at points first some first_is) in
    let on : items ≡ map (spot_of (coordinates_of first)) line.points = rw on_first at are in
    subst (λ (l : RoadLine). IsMeasured l arcs) is
    (measured_arcs line spots arcs sound (same ∙ on ∙ sym (polyline_is _ _ start)) of)
