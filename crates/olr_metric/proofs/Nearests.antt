-- The nearest of the first segments of a polyline.
use Rattle.olr_metric.proofs.Common.{◌≡◌, ℕ, suc, ◌+◌, ◌<◌, ◌≤◌, arith, add-one, List, length, Some, inl, inr, pos, get_or, min, ap, ◌∙◌, ◌*◌, ◌-ℤ◌, refl, slice_get, cases_lt, slice_get_within, slice_get-get_or, get_or_from_slice_get, Spot, square, distance, foot, arc, arc_at, IsSegment, IsNearestSegment, IsNearest, Near}
use Rattle.olr_metric.proofs.Arcs.{end_within}
use Rattle.olr_metric.proofs.Roots.{root_at_least}

-- gap is the distance of p from the segment of a number
abbrev pub IsGap : List Spot → Spot → ℕ → ℕ → Type 0
IsGap spots p i gap = (a b : Spot) → slice_get spots i ≡ Some a → slice_get spots (suc i) ≡ Some b
    → gap ≡ distance p (foot p a b)

-- spot is the foot of p on the segment of a number
abbrev pub IsFoot : List Spot → Spot → ℕ → Spot → Type 0
IsFoot spots p i spot = (a b : Spot) → slice_get spots i ≡ Some a → slice_get spots (suc i) ≡ Some b
    → spot ≡ foot p a b

-- the foot on the segment between the spots that are read there is
pub foot_read : (spots : List Spot) (p : Spot) (i : ℕ) (spot d : Spot)
    → spot ≡ foot p (get_or spots i d) (get_or spots (i + 1) d) → IsFoot spots p i spot
foot_read spots p i spot d is a b start end =
    is ∙ ap (λ k. foot p (get_or spots i d) (get_or spots k d)) (omega arith)
    ∙ ap (λ s. foot p s (get_or spots (suc i) d)) (get_or_from_slice_get _ i a d start)
    ∙ ap (foot p a) (get_or_from_slice_get spots (suc i) b d end)

-- and a segment is no nearer than a number whose square is at most that of the distance of the foot
pub no_nearer_read : (spots : List Spot) (p : Spot) (i : ℕ) (d : Spot) (least : ℕ)
    → least * least ≤ square (p.x -ℤ (foot p (get_or spots i d) (get_or spots (i + 1) d)).x)
    + square (p.y -ℤ (foot p (get_or spots i d) (get_or spots (i + 1) d)).y)
    → (a b : Spot) → slice_get spots i ≡ Some a → slice_get spots (suc i) ≡ Some b
    → least ≤ distance p (foot p a b)
no_nearer_read spots p i d least low a b start end =
    let at = foot p (get_or spots i d) (get_or spots (i + 1) d) in
    rw (foot_read _ p i _ d refl a b start end) at (root_at_least _ _ low)

-- the distance to that foot is the distance from that segment
pub gap_of_foot : (spots : List Spot) (p : Spot) (i : ℕ) (spot : Spot) (gap : ℕ)
    → IsFoot spots p i spot → gap ≡ distance p spot → IsGap spots p i gap
gap_of_foot spots p i spot gap is gap_is a b start end = gap_is ∙ ap (distance p) (is a b start end)

-- of the first n segments the one of number i is the first that is nearest to p
pub record IsNearestOf (spots : List Spot) (p : Spot) (n i gap : ℕ) : Type 0 where
  pub within : i < n
  pub is_gap : IsGap spots p i gap
  pub least : (j : ℕ) (c d : Spot) → j < n → IsSegment spots j c d → gap ≤ distance p (foot p c d)
  pub first : (j : ℕ) (c d : Spot) → j < i → IsSegment spots j c d → gap < distance p (foot p c d)

-- the next one is nearer
pub nearest_next : {spots : List Spot} {p : Spot} {n i gap next : ℕ} → IsNearestOf spots p n i gap
    → IsGap spots p n next → next < gap → IsNearestOf spots p (n + 1) n next
nearest_next {spots} {n} of is nearer = record {
  within = omega arith;
  is_gap = is;
  least = λ j c d lt segment. elim (cases_lt j n) [
    | inl before ↦ omega (arith, of.least j c d before segment)
    | inr at ↦ let same : j ≡ n = omega arith in
        omega (arith, is c d (rw same at segment.start) (rw same at segment.end))
  ];
  first = λ j c d lt segment. omega (arith, of.least j c d lt segment);
}

-- it is not
pub nearest_still : {spots : List Spot} {p : Spot} {n i gap : ℕ} → IsNearestOf spots p n i gap
    → ((a b : Spot) → slice_get spots n ≡ Some a → slice_get spots (suc n) ≡ Some b
    → gap ≤ distance p (foot p a b)) → IsNearestOf spots p (n + 1) i gap
nearest_still {spots} {n} of no_nearer = record {
  within = omega arith;
  is_gap = of.is_gap;
  least = λ j c d lt segment. elim (cases_lt j n) [
    | inl before ↦ of.least j c d before segment
    | inr at ↦ let same : j ≡ n = omega arith in
        no_nearer c d (rw same at segment.start) (rw same at segment.end)
  ];
  first = of.first;
}

-- of all segments
pub nearest_of_all : {spots : List Spot} {p : Spot} {n i gap : ℕ} (a b : Spot)
    → n + 1 ≡ length spots → IsNearestOf spots p n i gap
    → slice_get spots i ≡ Some a → slice_get spots (suc i) ≡ Some b → IsNearestSegment spots p i a b
nearest_of_all {spots} {n} a b all of start end = record {
  segment = record { start = start; end = end };
  least = λ j c d segment. let lt : j < n =
      omega (arith, slice_get_within spots (suc j) d segment.end) in
      omega (arith, of.least j c d lt segment, of.is_gap a b start end);
  first = λ j c d lt segment. omega (arith, of.first j c d lt segment, of.is_gap a b start end);
}

-- what the segment of a number is when its spots are read
abbrev pub IsFirst : List Spot → Spot → ℕ → Type 0
IsFirst spots p i = (a b : Spot) → slice_get spots i ≡ Some a → slice_get spots (suc i) ≡ Some b
    → IsNearestSegment spots p i a b

abbrev pub spot_at : List Spot → ℕ → Spot
spot_at spots i = get_or spots i (record { x = pos 0; y = pos 0 })

pub start_at : (spots : List Spot) (i : ℕ) → i + 1 < length spots
    → slice_get spots i ≡ Some (spot_at spots i)
start_at spots i within = slice_get-get_or _ i _ (omega arith)

pub end_at : (spots : List Spot) (i : ℕ) → i + 1 < length spots
    → slice_get spots (suc i) ≡ Some (spot_at spots (i + 1))
end_at spots i within = grind (arith, add-one, slice_get-get_or)

pub is_nearest : {spots : List Spot} {p : Spot} {i : ℕ} {near : Near} → i + 1 < length spots
    → IsFirst spots p i → IsFoot spots p i near.spot → near.distance ≡ distance p near.spot
    → near.arc ≡ arc_at spots i + min (distance (spot_at spots i) near.spot)
    (distance (spot_at spots i) (spot_at spots (i + 1))) → IsNearest spots p near
is_nearest {spots} {i} within is is_foot distance_is arc_is = record {
  i = i;
  a = spot_at spots i;
  b = spot_at spots (i + 1);
  nearest = is (spot_at spots i) (spot_at spots (i + 1)) (start_at _ i within) (end_at _ i within);
  foot_of = is_foot (spot_at spots i) (spot_at spots (i + 1)) (start_at _ i within)
      (end_at _ i within);
  distance_of = distance_is;
  arc_of = arc_is;
}

pub arc_is_within : (spots : List Spot) (i beyond : ℕ) → i + 1 < length spots
    → beyond ≤ distance (spot_at spots i) (spot_at spots (i + 1))
    → arc_at spots i + beyond ≤ arc spots
arc_is_within spots i beyond within small =
    end_within _ i _ _ _ (start_at _ i within) (end_at _ i within) small

-- no place that is nearest lies further than the end
pub nearest_within : (spots : List Spot) (p : Spot) (near : Near) → IsNearest spots p near
    → near.arc ≤ arc spots
nearest_within spots p near is =
    rw is.arc_of (end_within _ _ _ _ _ is.nearest.segment.start is.nearest.segment.end
    (omega arith))
