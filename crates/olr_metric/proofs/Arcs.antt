-- The arcs of a polyline's spots.
use Rattle.olr_metric.proofs.Common.{◌≡◌, ℕ, zero, suc, ◌+◌, ◌-◌, ◌<◌, ◌≤◌, arith, add-one, List, [], ◌∷◌, length, get_or, Some, refl, ap, slice_get, same_Some, none-some, slice_get-get_or, Spot, distance, arc, arc_at, IsPolyline}
use Rattle.std.proofs.Math.Seq.{take-length}
use Rattle.olr_metric.proofs.SpotDistances.{distance_positive}

-- the end of a segment is as much further as the segment is long
pub arc_segment : (spots : List Spot) (i : ℕ) (a b : Spot) → slice_get spots i ≡ Some a
    → slice_get spots (suc i) ≡ Some b → arc_at spots (suc i) ≡ arc_at spots i + distance a b
arc_segment [] i a b start end = absurd (none-some a start)
arc_segment (x ∷ []) i a b start end = absurd (none-some b end)
arc_segment (x ∷ y ∷ rest) zero a b start end = grind (arith, same_Some)
arc_segment (x ∷ y ∷ rest) (suc i) a b start end =
    omega (arith, arc_segment (y ∷ rest) i a b start end)

arc_step : (spots : List Spot) (i : ℕ) (d : Spot) → suc i < length spots
    → arc_at spots (suc i) ≡ arc_at spots i + distance (get_or spots i d) (get_or spots (suc i) d)
arc_step spots i d within = grind (arith, arc_segment, slice_get-get_or)

-- one segment more
pub arc_more : (spots : List Spot) (i : ℕ) (d : Spot) → i + 1 < length spots
    → arc_at spots (i + 1) ≡ arc_at spots i + distance (get_or spots i d) (get_or spots (i + 1) d)
arc_more spots i d within = rw add-one (arc_step _ i d (omega arith))

-- all segments
pub arc_all : (spots : List Spot) → 0 < length spots → arc_at spots (length spots - 1) ≡ arc spots
arc_all spots some =
    let whole : suc (length spots - 1) ≡ length spots = omega arith in
    rw whole (ap arc (take-length spots))

arc_within_one : (a : Spot) (i : ℕ) → arc_at (a ∷ []) i ≤ 0
arc_within_one a zero = omega arith
arc_within_one a (suc i) = omega arith

-- no spot lies further than the end
pub arc_within : (spots : List Spot) (i : ℕ) → arc_at spots i ≤ arc spots
arc_within [] i = omega arith
arc_within (a ∷ []) i = arc_within_one a i
arc_within (a ∷ b ∷ rest) zero = omega arith
arc_within (a ∷ b ∷ rest) (suc i) = omega (arith, arc_within (b ∷ rest) i)

-- and a polyline has a length
pub arc_positive : (spots : List Spot) → IsPolyline spots → 0 < arc spots
arc_positive [] is = absurd (omega arith)
arc_positive (a ∷ []) is = absurd (omega arith)
arc_positive (a ∷ b ∷ rest) is =
    omega (arith, distance_positive a b (is.apart 0 a b (record { start = refl; end = refl })))

pub end_within : (spots : List Spot) (i : ℕ) (a b : Spot) (beyond : ℕ) → slice_get spots i ≡ Some a
    → slice_get spots (suc i) ≡ Some b → beyond ≤ distance a b → arc_at spots i + beyond ≤ arc spots
end_within spots i a b beyond start end within =
    omega (arith, arc_segment spots i a b start end, arc_within spots (suc i))
