-- The polyline of a line is a polyline.
use Rattle.olr_candidates.proofs.Common.{Spot, Coordinates, coordinates_of, spot_of, IsInPlane, ◌≡◌, ℕ, zero, suc, ◌≤◌, List, [], ◌∷◌, length, map, Some, All, subst, refl, arith, slice_get, length-map, same_Some, none-some, IsPolyline, HasEqualNeighbours}
use Rattle.olr_base.specs.declared.degrees.Degrees.{Degrees}
use Rattle.olr_base.specs.Range.{IsLatitude}

abbrev pub OnePlace : Type 0
OnePlace = (origin a b : Coordinates) → IsLatitude origin.lat → spot_of origin a ≡ spot_of origin b
    → a ≡ b

-- the spots of the places of some points
pub spots_of : (origin : Coordinates) (points : List Degrees)
    → map (λ point. spot_of origin (coordinates_of point)) points
    ≡ map (spot_of origin) (map coordinates_of points)
spots_of origin [] = refl
spots_of origin (x ∷ rest) = cc (spots_of origin rest)

equal_behind : (x : Coordinates) (rest : List Coordinates) → HasEqualNeighbours rest
    → HasEqualNeighbours (x ∷ rest)
equal_behind x rest is = record {
  front = x ∷ is.front;
  rest = is.rest;
  place = is.place;
  equal = cc;
}

equal_at : (points : List Coordinates) (i : ℕ) (p : Coordinates) → slice_get points i ≡ Some p
    → slice_get points (suc i) ≡ Some p → HasEqualNeighbours points
equal_at [] i p start end = absurd (none-some p start)
equal_at (x ∷ []) i p start end = absurd (none-some p end)
equal_at (x ∷ y ∷ rest) zero p start end = record {
  front = [];
  rest = rest;
  place = p;
  equal = cc (same_Some x p start, same_Some y p end);
}
equal_at (x ∷ y ∷ rest) (suc i) p start end = equal_behind x _ (equal_at _ i p start end)

-- the place of a spot of a polyline
pub place_at : (f : Coordinates → Spot) (points : List Coordinates) (i : ℕ) (s : Spot)
    → slice_get (map f points) i ≡ Some s
    → (p : Coordinates) × (slice_get points i ≡ Some p) × (f p ≡ s)
place_at f [] i s at = absurd (none-some s at)
place_at f (x ∷ rest) zero s at = (x, refl, same_Some (f x) s at)
place_at f (x ∷ rest) (suc i) s at = place_at f rest i s at

pub is_polyline : OnePlace → (origin : Coordinates) → IsLatitude origin.lat
    → (points : List Coordinates) (spots : List Spot) → spots ≡ map (spot_of origin) points
    → 2 ≤ length points → length points ≤ 66 → (HasEqualNeighbours points → ⊥) → All IsInPlane spots
    → IsPolyline spots
is_polyline one origin is points spots same at_least at_most apart inside =
    let count : length spots ≡ length points = cc (length-map points (spot_of origin)) in
    record {
      at_least = omega arith;
      at_most = omega arith;
      in_plane = inside;
      apart = λ i a b segment equal.
          let first = place_at _ _ i a (subst (λ (l : List Spot). slice_get l i ≡ Some a) same
          segment.start) in
          let second = place_at (spot_of origin) points (suc i) b (rw (← same) segment.end) in
          let one_is : second.0 ≡ first.0 = one origin second.0 first.0 is (cc) in
          apart (equal_at _ i _ first.1 (cc));
    }
