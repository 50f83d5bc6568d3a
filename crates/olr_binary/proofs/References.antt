-- What the bytes of a reference say: that they say it of one reference alone, and that no refusal
-- holds of them.
use Rattle.olr_binary.proofs.Common.{◌≡◌, ℕ, zero, suc, ◌+◌, ◌*◌, ◌<◌, ◌≤◌, List, length, Option, Some, None, refl, ap, ◌∙◌, arith, inl, inr, Bool, true, false, if◌then◌else◌, MatchOption, Coordinates, IsInRange, Point, Next, Reference, Line, PointAlong, Refused, TooLong, NotBase64, Empty, BadVersion, OtherKind, PoiWithAccess, BadLength, TooManyPoints, OffsetFlags, OutOfRange, Area, GeoCoordinate, place_of, IsLayout, status_of, last_attribute_of, IsPoint, IsNext, ArePoints, IsReferenceOf, IsReference, AreLinked, IsOffset, offset_of, points_of, BytesCondition, flags_set, IsFirstOutOfRange, IsPointAlongSize, IsSize, AreBytes, IsBase64}
use Rattle.std.proofs.lemmas.List.{length-append, length-replicate}
use Rattle.std.proofs.lemmas.Option.{slice_get_cases}
use Rattle.arrayvec.specs.ArrayVec.{ArrayVec}
use Rattle.base64.proofs.RoundTrip.{length-encode_symbols}
use Rattle.olr_binary.specs.Bits.{area_flags_of, attribute_flag_of, point_flag_of, version_of}
use Rattle.olr_binary.proofs.Layouts.{layout_is_one}
use Rattle.olr_binary.proofs.Outcomes.{first_place_is_one}
use Rattle.olr_binary.proofs.Same.{same_degrees, same_next, same_point, same_points}

-- ---- points

next_is_one : (bytes : List ℕ) (count i : ℕ) (a b : Option Next)
    → MatchOption a (i + 1 ≡ count) (λ next. (i + 1 < count) × IsNext bytes i next)
    → MatchOption b (i + 1 ≡ count) (λ next. (i + 1 < count) × IsNext bytes i next) → a ≡ b
next_is_one bytes count i None None p q = refl
next_is_one bytes count i None (Some y) p q = absurd (omega arith)
next_is_one bytes count i (Some x) None p q = absurd (omega arith)
next_is_one bytes count i (Some x) (Some y) p q = ap Some (same_next (cc) (cc))

point_is_one : {bytes : List ℕ} {first : Coordinates} {count i : ℕ} {a b : Point}
    → IsPoint bytes first count i a → IsPoint bytes first count i b → a ≡ b
point_is_one {bytes} {first} {count} {i} p q = grind (arith, same_point, same_degrees, next_is_one)

points_are_one : {bytes : List ℕ} {xs ys : List Point} → length xs ≡ length ys → ArePoints bytes xs
    → ArePoints bytes ys → xs ≡ ys
points_are_one len p q = same_points _ _ len (λ i x y at_x at_y. point_is_one (p.each i x at_x)
    (rw (first_place_is_one p.place q.place, len) (q.each i y at_y)))

linked : (bytes : List ℕ) (points : List Point) → ArePoints bytes points → AreLinked points
linked bytes points p i point e = go point.next (p.each i point e).attributes.next
  where
    go : (next : Option Next) → MatchOption next (i + 1 ≡ length points)
        (λ n. (i + 1 < length points) × IsNext bytes i n)
        → MatchOption next (i + 1 ≡ length points) (λ _. i + 1 < length points)
    go None h = h
    go (Some n) h = h.0

-- each point lies within the ranges of coordinates
inside : {bytes : List ℕ} {points : List Point} (p : ArePoints bytes points) (i : ℕ)
    → i < length points → IsInRange (place_of bytes p.first i)
inside {bytes} {points} p i lt = elim (slice_get_cases points i).1 [
  | inl found ↦
      let here = p.each i found.0 found.2 in
      record {
        lon = rw (← here.lon) found.0.at.lon_in_range;
        lat = rw (← here.lat) found.0.at.lat_in_range;
      }
  | inr past ↦ absurd (omega arith)
]

none_beyond : {bytes : List ℕ} {points : List Point} {i : ℕ} → ArePoints bytes points
    → i < length points → IsFirstOutOfRange bytes i → ⊥
none_beyond {bytes} {points} {i} p lt beyond = grind (arith, first_place_is_one, inside)

-- ---- references

either : (b : Bool) (x y : ℕ) → x < 256 → y < 256 → (if b then x else y) < 256
either true x y p q = p
either false x y p q = q

offset_in_range : (flag byte : ℕ) → byte < 256 → IsOffset (offset_of flag byte)
offset_in_range flag byte lt = grind arith

-- what holds of every reference
pub is_reference : (bytes : List ℕ) (r : Reference) → AreBytes bytes → IsReferenceOf bytes r
    → IsReference r
is_reference bytes (Line points positive negative) fits h = record {
  at_least = omega arith;
  at_most = h.at_most;
  linked = linked _ _ h.each_point;
  positive_in_range = rw h.positive_offset
      (offset_in_range _ _ (fits (2 + 7 * length points.items)));
  negative_in_range = rw h.negative_offset
      (offset_in_range _ _ (either _ _ _ (fits (3 + 7 * length points.items))
      (fits (2 + 7 * length points.items))));
}
is_reference bytes (PointAlong points orientation side positive) fits h = record {
  two = h.two;
  linked = linked _ _ h.each_point;
  orientation_in_range = omega arith;
  side_in_range = omega arith;
  positive_in_range = rw h.positive_offset (offset_in_range _ _ (fits 16));
}

same_items : (xs ys : ArrayVec Point) → xs.items ≡ ys.items → xs ≡ ys
same_items xs ys e = λ i. record { items = e i }

-- the bytes are one reference at most
pub reference_is_one : (bytes : List ℕ) (r s : Reference) → IsReferenceOf bytes r
    → IsReferenceOf bytes s → r ≡ s
reference_is_one bytes (Line xs p n) (PointAlong ys o s q) a b = absurd (omega arith)
reference_is_one bytes (PointAlong ys o s q) (Line xs p n) a b = absurd (omega arith)
reference_is_one bytes (Line xs p n) (Line ys q m) a b =
    let points : xs ≡ ys = same_items _ _
    (points_are_one (layout_is_one a.layout b.layout).0 a.each_point b.each_point) in
    let positive : p ≡ q = cc in
    let negative : n ≡ m = cc in
    cc
reference_is_one bytes (PointAlong xs o s p) (PointAlong ys o' s' q) a b =
    cc (same_items _ _ (points_are_one (cc) a.each_point b.each_point))

-- ---- no refusal

-- what a line and a point along a line have in common
record IsRead (bytes : List ℕ) (points : List Point) : Type 0 where
  version : version_of (status_of bytes) ≡ 3
  area : area_flags_of (status_of bytes) ≡ 0
  attributes : attribute_flag_of (status_of bytes) ≡ 1
  sized : IsSize (status_of bytes) (length bytes)
  at_poi : point_flag_of (status_of bytes) ≡ 1 → length bytes ≤ 17
  offsets : ℕ
  layout : IsLayout (length bytes) (length points) offsets
  at_most : length points ≤ 32
  flags : offsets ≡ flags_set (status_of bytes) (last_attribute_of bytes (length points))
  each_point : ArePoints bytes points

one_or_none : (n : ℕ) → n < 2 → IsPointAlongSize (16 + n)
one_or_none zero lt = inl refl
one_or_none (suc zero) lt = inr refl
one_or_none (suc (suc n)) lt = absurd (omega arith)

is_read : (bytes : List ℕ) (r : Reference) → IsReferenceOf bytes r → IsRead bytes (points_of r)
is_read bytes (Line points p n) r = grind arith
is_read bytes (PointAlong points o s p) r = grind (arith, one_or_none)

not_refused : (bytes : List ℕ) (points : List Point) → IsRead bytes points → (e : Refused)
    → BytesCondition bytes e → ⊥
not_refused bytes points r TooLong h = h
not_refused bytes points r NotBase64 h = h
not_refused bytes points r Empty h = omega (arith, ap length h)
not_refused bytes points r (BadVersion v) h = h.1 (h.0 ∙ r.version)
not_refused bytes points r (OtherKind Area) (inl area) = omega arith
not_refused bytes points r (OtherKind Area) (inr neither) = omega arith
not_refused bytes points r (OtherKind GeoCoordinate) h = omega arith
not_refused bytes points r PoiWithAccess (point, _, inl e) = omega (arith, r.at_poi point)
not_refused bytes points r PoiWithAccess (point, _, inr e) = omega (arith, r.at_poi point)
not_refused bytes points r (BadLength size) h = h.1 (rw h.0 r.sized)
not_refused bytes points r (TooManyPoints count) (line, o, layout, many) =
    grind (arith, layout_is_one)
not_refused bytes points r OffsetFlags (count, o, layout, differ) = grind (arith, layout_is_one)
not_refused bytes points r (OutOfRange point) (i, at, count, o, layout, lt, beyond) =
    none_beyond r.each_point (omega (arith, (layout_is_one r.layout layout).0)) beyond

-- no refusal holds of the bytes of a reference
pub reference_refused : (bytes : List ℕ) (r : Reference) → IsReferenceOf bytes r → (e : Refused)
    → BytesCondition bytes e → ⊥
reference_refused bytes r is = not_refused bytes (points_of r) (is_read bytes r is)

-- ---- the length of its text

pub text_of_reference : (text bytes : List ℕ) (r : Reference) → IsBase64 text bytes
    → IsReferenceOf bytes r → length text ≤ 344
text_of_reference text bytes r b h =
    grind (arith, is_read, length-append, length-encode_symbols, length-replicate)
