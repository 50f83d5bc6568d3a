-- No two neighbours of a line's polyline are equal.
use Rattle.std.proofs.Common.{◌≡◌, ◌∙◌, ℕ, zero, suc, ap, arith, sym, refl, List, [], ◌∷◌, All, map, Some}
use Rattle.std.proofs.lemmas.Option.{none-some, same_Some}
use Rattle.std.specs.Prelude.{slice_get}
use Rattle.olr_base.specs.Coordinates.{Coordinates, IsInRange}
use Rattle.olr_metric.specs.Plane.{spot_of}
use Rattle.olr_metric.specs.declared.spot.Spot.{Spot}
use Rattle.olr_road.specs.RoadMap.{HasEqualNeighbours}
use Rattle.olr_shape.specs.Laws.{PlaneLaws}
use Rattle.olr_shape.specs.Position.{polyline_of}
use Rattle.olr_shape.proofs.Arcs.{AreUnlike}

equal_behind : (x : Coordinates) (rest : List Coordinates) → HasEqualNeighbours rest
    → HasEqualNeighbours (x ∷ rest)
equal_behind x rest is = record {
  front = x ∷ is.front;
  rest = is.rest;
  place = is.place;
  equal = cc;
}

equal_at : (points : List Coordinates) (i : ℕ) (p : Coordinates) → slice_get points i ≡ Some p
    → slice_get points (suc i) ≡ Some p → HasEqualNeighbours points
equal_at [] i p start end = absurd (none-some p start)
equal_at (x ∷ []) i p start end = absurd (none-some p end)
equal_at (x ∷ y ∷ rest) zero p start end = record {
  front = [];
  rest = rest;
  place = p;
  equal = cc (same_Some x p start, same_Some y p end);
}
equal_at (x ∷ y ∷ rest) (suc i) p start end = equal_behind x _ (equal_at _ i p start end)

-- the place of a spot of a polyline
place_at : (f : Coordinates → Spot) (points : List Coordinates) (i : ℕ) (s : Spot)
    → slice_get (map f points) i ≡ Some s
    → (p : Coordinates) × (slice_get points i ≡ Some p) × (f p ≡ s)
place_at f [] i s at = absurd (none-some s at)
place_at f (x ∷ rest) zero s at = (x, refl, same_Some (f x) s at)
place_at f (x ∷ rest) (suc i) s at = place_at f rest i s at

-- neighbours are unequal spots, since they are unequal places
pub unlike : PlaneLaws → (points : List Coordinates) → All IsInRange points
    → (HasEqualNeighbours points → ⊥) → AreUnlike (polyline_of points)
unlike laws [] inside apart i a b segment = absurd (none-some a segment.start)
unlike laws (x ∷ rest) inside apart i a b segment =
    let first = place_at (spot_of x) (x ∷ rest) i a segment.start in
    let second = place_at (spot_of x) (x ∷ rest) (suc i) b segment.end in
    λ equal.
    let same : second.0 ≡ first.0 = laws.one_place x second.0 first.0
    ((inside 0 x (omega arith)).lat) (second.2 ∙ sym equal ∙ sym first.2) in
    let again : slice_get (x ∷ rest) (suc i) ≡ Some first.0 =
    second.1 ∙ ap (λ (c : Coordinates). Some c) same in
    apart (equal_at (x ∷ rest) i first.0 first.1 again)
