-- The least and the greatest latitude and longitude so far.
use Rattle.std.proofs.lemmas.Grind.{common_steps}
use Rattle.olr_index.proofs.Common.{rules, ◌≡◌, ℕ, ◌+◌, ◌<◌, ◌≤◌, ℤ, Bool, true, false, cond, List, length, map, take, get_or, arith, sym, ap, ◌∙◌, w32, to_z, of_z, FitsSigned, ◌≤ℤ◌, ints, clamps, to_z-of_z, take_all, length-map, get_or-map, All-more, All-weaker, Degrees, IsSpan, Covers, BoundingBox, PlacedLine}
use Rattle.std.specs.Int.{int_min, int_max}
use Rattle.std.specs.List.{All, Contains}

-- ---- numbers as the code passes them

-- a bound that the code computes
bound_is : (pick : ℤ → ℤ → ℤ) {bound x y : ℤ} → FitsSigned w32 bound → FitsSigned w32 x
    → FitsSigned w32 y → bound ≡ pick (to_z w32 (of_z w32 x)) (to_z w32 (of_z w32 y))
    → to_z w32 (of_z w32 bound) ≡ pick x y
bound_is pick {bound} {x} {y} fits first second same = grind (arith, to_z-of_z)

pub least_is : {bound x y : ℤ} → FitsSigned w32 bound → FitsSigned w32 x → FitsSigned w32 y
    → bound ≡ int_min (to_z w32 (of_z w32 x)) (to_z w32 (of_z w32 y))
    → to_z w32 (of_z w32 bound) ≡ int_min x y
least_is = bound_is int_min

pub greatest_is : {bound x y : ℤ} → FitsSigned w32 bound → FitsSigned w32 x → FitsSigned w32 y
    → bound ≡ int_max (to_z w32 (of_z w32 x)) (to_z w32 (of_z w32 y))
    → to_z w32 (of_z w32 bound) ≡ int_max x y
greatest_is = bound_is int_max

-- ---- bounding boxes that others lie within

covers_all : (outer middle inner : BoundingBox) → Covers outer middle → Covers middle inner
    → Covers outer inner
covers_all outer middle inner first second = grind (arith, ints)

-- bounds that the code computes for a bounding box that holds two others
pub least_covers : {bound x y : ℤ} → FitsSigned w32 bound → FitsSigned w32 x → FitsSigned w32 y
    → bound ≡ int_min (to_z w32 (of_z w32 x)) (to_z w32 (of_z w32 y))
    → (to_z w32 (of_z w32 bound) ≤ℤ x) × (to_z w32 (of_z w32 bound) ≤ℤ y)
least_covers fits first second same = grind (arith, least_is, ints, clamps)

pub greatest_covers : {bound x y : ℤ} → FitsSigned w32 bound → FitsSigned w32 x → FitsSigned w32 y
    → bound ≡ int_max (to_z w32 (of_z w32 x)) (to_z w32 (of_z w32 y))
    → (x ≤ℤ to_z w32 (of_z w32 bound)) × (y ≤ℤ to_z w32 (of_z w32 bound))
greatest_covers fits first second same = grind (arith, greatest_is, ints, clamps)

-- one line more, in a bounding box that holds its bounding box and the one before
pub cover_more : (old new : BoundingBox) (lines : List PlacedLine) (i : ℕ) (d : PlacedLine)
    → i < length lines → Covers new old → Covers new (get_or lines i d).bounding_box
    → All (λ l. Covers old l.bounding_box) (take i lines)
    → All (λ l. Covers new l.bounding_box) (take (i + 1) lines)
cover_more old new lines i d inside wider holds before =
    search (rules, arith, All-more, All-weaker, covers_all, wider)

-- ---- latitudes

abbrev pub Between : ℤ → ℤ → ℤ → Type 0
Between least greatest lat = (least ≤ℤ lat) × (lat ≤ℤ greatest)

wider : (least greatest new x : ℤ) → Between least greatest x
    → Between (int_min least new) (int_max greatest new) x
wider least greatest new x h = grind (arith, ints, clamps)

itself : (least greatest new : ℤ) → Between (int_min least new) (int_max greatest new) new
itself least greatest new = (omega (arith, ints, clamps), omega (arith, ints, clamps))

-- one latitude more
pub within_more : (least greatest : ℤ) (lats : List ℤ) (i : ℕ) (lat : ℤ) → i < length lats
    → get_or lats i lat ≡ lat → All (Between least greatest) (take i lats)
    → All (Between (int_min least lat) (int_max greatest lat)) (take (i + 1) lats)
within_more least greatest lats i lat inside same before =
    grind (arith, common_steps, All-more, All-weaker, wider, itself)

contains_one : (lats : List ℤ) (b : Bool) (x y : ℤ) → Contains lats x → Contains lats y
    → Contains lats (cond b x y)
contains_one lats true x y first second = first
contains_one lats false x y first second = second

pub contains_min : (lats : List ℤ) (x y : ℤ) → Contains lats x → Contains lats y
    → Contains lats (int_min x y)
contains_min lats x y first second = contains_one _ _ y x second first

pub contains_max : (lats : List ℤ) (x y : ℤ) → Contains lats x → Contains lats y
    → Contains lats (int_max x y)
contains_max lats x y first second = contains_one _ _ x y first second

-- ---- points

-- the span of a coordinate of the first i points, whose bounds are of some points
pub record IsSpanSoFar (of : Degrees → ℤ) (points : List Degrees) (i : ℕ)
    (least greatest : ℤ) : Type 0 where
  pub within : All (Between least greatest) (take i (map of points))
  pub least_is : Contains (map of points) least
  pub greatest_is : Contains (map of points) greatest

number_at : (of : Degrees → ℤ) (points : List Degrees) (i : ℕ) (point : Degrees) → i < length points
    → point ≡ get_or points i point → get_or (map of points) i (of point) ≡ of point
number_at of points i point inside same = get_or-map _ _ i _ _ inside ∙ ap of (sym same)

-- one point more
pub span_more : (of : Degrees → ℤ) (points : List Degrees) (i : ℕ) {least greatest : ℤ}
    (point : Degrees) → i < length points → point ≡ get_or points i point
    → IsSpanSoFar of points i least greatest
    → IsSpanSoFar of points (i + 1) (int_min least (of point)) (int_max greatest (of point))
span_more of points i point inside same before =
    let here : i < length (map of points) = rw (length-map points of) inside in
    let at = number_at _ _ i _ inside same in
    let found : Contains (map of points) (of point) = (i, here, at) in
    record {
      within = within_more _ _ _ i _ here at before.within;
      least_is = contains_min _ _ _ before.least_is found;
      greatest_is = contains_max _ _ _ before.greatest_is found;
    }

-- no point yet
pub span_start : (of : Degrees → ℤ) (points : List Degrees) (point : Degrees) → 0 < length points
    → point ≡ get_or points 0 point → IsSpanSoFar of points 0 (of point) (of point)
span_start of points point inside same =
    let here : 0 < length (map of points) = rw (length-map points of) inside in
    let found : Contains (map of points) (of point) = (0, here, number_at _ _ 0 _ inside same) in
    record { within = λ k d below. absurd (omega arith); least_is = found; greatest_is = found }

-- all points
pub span_whole : (of : Degrees → ℤ) (points : List Degrees) (i : ℕ) {least greatest : ℤ}
    → length points ≤ i → IsSpanSoFar of points i least greatest
    → IsSpan (map of points) least greatest
span_whole of points i all so_far =
    let here : length (map of points) ≤ i = rw (length-map points of) all in
    record {
      within = rw (take_all i (map of points) here) at so_far.within;
      least_is = so_far.least_is;
      greatest_is = so_far.greatest_is;
    }
