-- The segment at an arc.
use Rattle.olr_metric.proofs.Common.{◌≡◌, ℕ, suc, ◌+◌, ◌-◌, ◌<◌, ◌≤◌, arith, add-one, List, length, Some, inl, inr, sym, ◌≢◌, slice_get, cases_lt, Spot, distance, arc_at, IsPolyline, IsSegmentAt, IsAlong, spot_between}
use Rattle.olr_metric.proofs.Arcs.{arc_segment}
use Rattle.olr_metric.proofs.Nearests.{spot_at, start_at, end_at}

-- the first n segments end before s
abbrev pub AreBefore : List Spot → ℕ → ℕ → Type 0
AreBefore spots s n = (j : ℕ) → j < n → arc_at spots (suc j) < s

pub one_more_before : (spots : List Spot) (s n : ℕ) → AreBefore spots s n → arc_at spots (n + 1) < s
    → AreBefore spots s (n + 1)
one_more_before spots s n before next j lt = elim (cases_lt j n) [
  | inl under ↦ before j under
  | inr over ↦ let same : suc j ≡ n + 1 = omega arith in rw same next
]

pub segment_at : (spots : List Spot) (s i : ℕ) (a b : Spot) → AreBefore spots s i
    → s ≤ arc_at spots (i + 1)
    → slice_get spots i ≡ Some a → slice_get spots (suc i) ≡ Some b → IsSegmentAt spots s i a b
segment_at spots s i a b before reaches start end = record {
  segment = record { start = start; end = end };
  reaches = rw add-one at reaches;
  first = before;
}

-- and s lies no further on it than its end
pub ends_behind : (spots : List Spot) (s i : ℕ) (a b : Spot) → IsSegmentAt spots s i a b
    → s - arc_at spots i ≤ distance a b
ends_behind spots s i a b is = omega (arith, arc_segment _ i a b is.segment.start is.segment.end)

-- what the segment of a number is when its spots are read
abbrev pub IsAt : List Spot → ℕ → ℕ → Type 0
IsAt spots s i = (a b : Spot) → slice_get spots i ≡ Some a → slice_get spots (suc i) ≡ Some b
    → IsSegmentAt spots s i a b

read : {spots : List Spot} (s i : ℕ) → i + 1 < length spots → IsAt spots s i
    → IsSegmentAt spots s i (spot_at spots i) (spot_at spots (i + 1))
read s i within is = is _ _ (start_at _ i within) (end_at _ i within)

pub is_at : {spots : List Spot} {s i : ℕ} → i + 1 < length spots → IsAt spots s i → IsPolyline spots
    → (spot_at spots i ≢ spot_at spots (i + 1))
    × (s - arc_at spots i ≤ distance (spot_at spots i) (spot_at spots (i + 1)))
is_at {spots} {s} {i} within is polyline =
    let at = read s i within is in (
      polyline.apart i (spot_at spots i) (spot_at spots (i + 1)) at.segment,
      ends_behind _ s i _ _ at,
    )

pub is_along : {spots : List Spot} {s i start : ℕ} {spot : Spot} → i + 1 < length spots
    → IsAt spots s i → start ≡ arc_at spots i
    → spot ≡ spot_between (spot_at spots i) (spot_at spots (i + 1)) (s - start)
    (distance (spot_at spots i) (spot_at spots (i + 1))) → IsAlong spots s spot
is_along {spots} {s} {i} within is same spot_is = record {
  i = i;
  a = spot_at spots i;
  b = spot_at spots (i + 1);
  at_arc = read s i within is;
  spot_of = rw (sym same) spot_is;
}
