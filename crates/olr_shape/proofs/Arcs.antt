-- The arcs of the spots of a polyline.
use Rattle.std.proofs.Common.{◌≡◌, ◌≢◌, ◌↔◌, ℕ, zero, suc, ◌+◌, ◌*◌, ◌^◌, ◌<◌, ◌≤◌, arith, add-one, All, List, [], ◌∷◌, ◌++◌, length, get_or, Some, ap, ◌∙◌, below_more, inl, inr}
use Rattle.std.proofs.lemmas.Bool.{cases_eq}
use Rattle.std.proofs.lemmas.List.{get_or_append_left, get_or_push, length_push}
use Rattle.std.proofs.lemmas.List.Elements.{All-push}
use Rattle.std.proofs.lemmas.Option.{none-some, same_Some, slice_get-get_or}
use Rattle.std.proofs.Math.Seq.{take-length}
use Rattle.std.specs.Prelude.{slice_get, slice_index}
use Rattle.olr_metric.specs.Polyline.{IsPolyline, IsSegment, arc, arc_at}
use Rattle.olr_metric.specs.Spot.{distance}
use Rattle.olr_metric.specs.declared.spot.Spot.{Spot}
use Rattle.olr_shape.specs.inner.Measured.{AreArcs}

-- ---- arcs

-- the end of a segment is as much further as the segment is long
pub arc_segment : (spots : List Spot) (i : ℕ) (a b : Spot) → slice_get spots i ≡ Some a
    → slice_get spots (suc i) ≡ Some b → arc_at spots (suc i) ≡ arc_at spots i + distance a b
arc_segment [] i a b start end = absurd (none-some a start)
arc_segment (x ∷ []) i a b start end = absurd (none-some b end)
arc_segment (x ∷ y ∷ rest) zero a b start end = grind (arith, same_Some)
arc_segment (x ∷ y ∷ rest) (suc i) a b start end =
    omega (arith, arc_segment (y ∷ rest) i a b start end)

-- the same of spots that are read
arc_step : (spots : List Spot) (i : ℕ) (d : Spot) → suc i < length spots
    → arc_at spots (suc i) ≡ arc_at spots i + distance (get_or spots i d) (get_or spots (suc i) d)
arc_step spots i d within = grind (arith, arc_segment, slice_get-get_or)

-- one segment more
pub arc_more : (spots : List Spot) (i : ℕ) (d : Spot) → i + 1 < length spots
    → arc_at spots (i + 1) ≡ arc_at spots i + distance (get_or spots i d) (get_or spots (i + 1) d)
arc_more spots i d within = rw add-one (arc_step _ i d (omega arith))

-- all segments
pub arc_all : (spots : List Spot) (i : ℕ) → suc i ≡ length spots → arc_at spots i ≡ arc spots
arc_all spots i all = rw all (ap arc (take-length spots))

arc_within_one : (a : Spot) (i : ℕ) → arc_at (a ∷ []) i ≤ 0
arc_within_one a zero = omega arith
arc_within_one a (suc i) = omega arith

-- no spot lies further than the end
pub arc_within : (spots : List Spot) (i : ℕ) → arc_at spots i ≤ arc spots
arc_within [] i = omega arith
arc_within (a ∷ []) i = arc_within_one a i
arc_within (a ∷ b ∷ rest) zero = omega arith
arc_within (a ∷ b ∷ rest) (suc i) = omega (arith, arc_within (b ∷ rest) i)

-- ---- they rise

-- unequal spots are apart
abbrev pub AreApart : Type 0
AreApart = (a b : Spot) → (distance a b ≡ 0) ↔ (a ≡ b)

pub distance_positive : AreApart → (a b : Spot) → a ≢ b → 0 < distance a b
distance_positive law a b apart = elim (cases_eq (distance a b) 0) [
  | inl none ↦ absurd (apart ((law a b).0 none))
  | inr some ↦ omega arith
]

-- no two neighbours are equal
abbrev pub AreUnlike : List Spot → Type 0
AreUnlike spots = (i : ℕ) (a b : Spot) → IsSegment spots i a b → a ≢ b

-- the end of a segment is further than its start
pub rise : AreApart → (spots : List Spot) → AreUnlike spots → (i : ℕ) → suc i < length spots
    → arc_at spots i < arc_at spots (suc i)
rise law [] unlike i within = absurd (omega arith)
rise law (x ∷ rest) unlike i within =
    let a = get_or (x ∷ rest) i x in
    let b = get_or (x ∷ rest) (suc i) x in
    let start : slice_get (x ∷ rest) i ≡ Some a =
    slice_get-get_or (x ∷ rest) i x (omega arith) in
    let end : slice_get (x ∷ rest) (suc i) ≡ Some b =
    slice_get-get_or (x ∷ rest) (suc i) x within in
    let apart = unlike i a b (record { start = start; end = end }) in
    omega (arith, arc_segment (x ∷ rest) i a b start end, distance_positive law a b apart)

-- ---- as the code gathers them

-- the arcs of the first n spots
pub record AreFirstArcs (spots : List Spot) (n : ℕ) (arcs : List ℕ) : Type 0 where
  pub count : length arcs ≡ n
  pub each : (i : ℕ) → i < n → slice_index arcs i ≡ arc_at spots i
  pub at_most : All (λ arc. arc ≤ 66 * 2 ^ 35) arcs

-- those of one spot more
pub one_arc_more : (spots : List Spot) (n : ℕ) (arcs : List ℕ) (arc : ℕ)
    → AreFirstArcs spots n arcs → arc ≡ arc_at spots n → arc ≤ 66 * 2 ^ 35
    → AreFirstArcs spots (n + 1) (arcs ++ arc ∷ [])
one_arc_more spots n arcs arc are is at_most = record {
  count = omega (arith, length_push arcs arc, are.count);
  each = below_more _ n (λ i less.
      get_or_append_left arcs _ 0 i (omega (arith, are.count)) ∙ are.each i less)
      (get_or_push arcs arc 0 n are.count ∙ is);
  at_most = All-push (λ a. a ≤ 66 * 2 ^ 35) arcs arc are.at_most at_most;
}

-- those of all spots
pub all_arcs : AreApart → (spots : List Spot) (n : ℕ) (arcs : List ℕ) → IsPolyline spots
    → AreFirstArcs spots n arcs → n ≡ length spots → AreArcs spots arcs
all_arcs law spots n arcs is are all = record {
  count = are.count ∙ all;
  each = λ i less. are.each i (omega arith);
  rise = rise law spots is.apart;
  at_most = are.at_most;
}
