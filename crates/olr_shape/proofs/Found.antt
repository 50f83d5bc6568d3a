-- The first segment that reaches a position, and the spot on it.
use Rattle.std.proofs.Common.{◌≡◌, ◌∙◌, ℕ, zero, suc, ◌+◌, ◌<◌, ◌≤◌, arith, Bool, true, false, cond, List, [], ◌∷◌, length, drop, get_or, Option, None, Some, ap, sym, refl}
use Rattle.std.proofs.lemmas.Bool.{le-leb, lt-leb}
use Rattle.std.proofs.lemmas.List.{drop_all}
use Rattle.std.proofs.lemmas.Option.{none-some, same_Some, slice_get-get_or}
use Rattle.std.specs.Prelude.{find, option_map, slice_get}
use Rattle.olr_base.specs.Coordinates.{Coordinates}
use Rattle.olr_metric.specs.Polyline.{arc_at}
use Rattle.olr_metric.specs.declared.spot.Spot.{Spot}
use Rattle.olr_shape.specs.Position.{Segment, arc_of_point, arc_of_position, polyline_of, reaches, segments_from, spot_at, spot_within}
use Rattle.olr_shape.proofs.Segments.{length-segments_from, segment_of}

-- ---- the first that passes

module _ {A : Type 0} (test : A → Bool) where
  find_step : (xs : List A) (i : ℕ) (x : A) → slice_get xs i ≡ Some x
      → find test (drop i xs) ≡ cond (test x) (Some x) (find test (drop (suc i) xs))
  find_step [] i x at = absurd (none-some x at)
  find_step (y ∷ ys) zero x at =
      ap (λ (a : A). cond (test a) (Some a) (find test ys)) (same_Some y x at)
  find_step (y ∷ ys) (suc i) x at = find_step ys i x at

  earlier : (b : Bool) (y : A) (found : Option A) → (x : A) × (found ≡ Some x)
      → (x : A) × (cond b (Some y) found ≡ Some x)
  earlier true y found is = (y, refl)
  earlier false y found is = is

  -- there is one
  find_some : (xs : List A) (i : ℕ) (x : A) → slice_get xs i ≡ Some x → test x ≡ true
      → (y : A) × (find test xs ≡ Some y)
  find_some [] i x at passes = absurd (none-some x at)
  find_some (y ∷ ys) zero x at passes =
      (y, ap (λ (b : Bool). cond b (Some y) (find test ys)) (ap test (same_Some y x at) ∙ passes))
  find_some (y ∷ ys) (suc i) x at passes =
      earlier (test y) y (find test ys) (find_some ys i x at passes)

-- ---- segments

-- the segment of a number
segment_within : (points : List Coordinates) (i : ℕ) → suc i < length points
    → (s : Segment) × (slice_get (segments_from 0 points) i ≡ Some s) × (s.number ≡ i)
segment_within [] i within = absurd (omega arith)
segment_within (x ∷ rest) i within =
    let p = get_or (x ∷ rest) i x in
    let q = get_or (x ∷ rest) (suc i) x in (
      record { number = i; p = p; q = q },
      segment_of 0 (x ∷ rest) i i p q (omega arith)
          (slice_get-get_or (x ∷ rest) i x (omega arith))
          (slice_get-get_or (x ∷ rest) (suc i) x within),
      refl,
    )

pub arc_of_first : (spots : List Spot) → arc_at spots 0 ≡ 0
arc_of_first [] = refl
arc_of_first (x ∷ rest) = refl

module _ (points : List Coordinates) (length_of at : ℕ) where
  -- no segment before this one reaches the position
  pub record IsSought (i : ℕ) : Type 0 where
    pub start : arc_of_point points length_of i ≤ arc_of_position points length_of at
    pub rest : find (reaches points length_of at) (segments_from 0 points)
        ≡ find (reaches points length_of at) (drop i (segments_from 0 points))

  -- this one does
  pub found : (i : ℕ) (spot : Coordinates) → suc i < length points → IsSought i
      → arc_of_position points length_of at ≤ arc_of_point points length_of (suc i)
      → option_map (spot_within points length_of at) (slice_get (segments_from 0 points) i)
      ≡ Some spot
      → spot_at points length_of at ≡ Some spot
  found i spot within is reached spot_is =
      let s = segment_within points i within in
      let number = s.2 in
      let passes : reaches points length_of at s.0 ≡ true = rw number (le-leb _ _ reached) in
      ap (option_map (spot_within points length_of at)) (is.rest
      ∙ find_step (reaches points length_of at) (segments_from 0 points) i s.0 s.1
      ∙ ap (λ (b : Bool). cond b (Some s.0)
      (find (reaches points length_of at) (drop (suc i) (segments_from 0 points)))) passes
      ∙ sym s.1) ∙ spot_is

  -- it doesn't
  pub passed : (i : ℕ) → suc i < length points → IsSought i
      → arc_of_point points length_of (suc i) < arc_of_position points length_of at
      → IsSought (suc i)
  passed i within is before =
      let s = segment_within points i within in
      let number = s.2 in
      let fails : reaches points length_of at s.0 ≡ false = rw number (lt-leb _ _ before) in
      record {
        start = omega arith;
        rest = is.rest
            ∙ find_step (reaches points length_of at) (segments_from 0 points) i s.0 s.1
            ∙ ap (λ (b : Bool). cond b (Some s.0)
            (find (reaches points length_of at) (drop (suc i) (segments_from 0 points)))) fails;
      }

  -- none is sought through, and those before one that don't reach it
  sought_first : IsSought 0
  sought_first = record { start = rw (arc_of_first (polyline_of points)) (omega arith); rest = refl }

  pub sought : (i : ℕ) → i < length points
      → ((j : ℕ) → j < i
      → arc_of_point points length_of (suc j) < arc_of_position points length_of at)
      → IsSought i
  sought zero within before = sought_first
  sought (suc i) within before =
      passed i within (sought i (omega arith) (λ j less. before j (omega arith)))
      (before i (omega arith))

  -- where one reaches the position, it has a spot
  pub has_spot : (i : ℕ) → suc i < length points
      → arc_of_position points length_of at ≤ arc_of_point points length_of (suc i)
      → (spot : Coordinates) × (spot_at points length_of at ≡ Some spot)
  has_spot i within reached =
      let s = segment_within points i within in
      let number = s.2 in
      let passes : reaches points length_of at s.0 ≡ true = rw number (le-leb _ _ reached) in
      let first = find_some (reaches points length_of at) (segments_from 0 points) i s.0 s.1 passes
      in (
        spot_within points length_of at first.0,
        ap (option_map (spot_within points length_of at)) first.1,
      )

  -- none does
  pub all_passed : (i : ℕ) → length points ≤ i + 1 → IsSought i
      → spot_at points length_of at ≡ None
  all_passed i all is = ap (option_map (spot_within points length_of at)) (is.rest
      ∙ ap (find (reaches points length_of at))
      (drop_all i (segments_from 0 points) (omega (arith, length-segments_from 0 points))))
