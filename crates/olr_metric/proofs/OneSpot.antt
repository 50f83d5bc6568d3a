-- A polyline is nearest to a spot at one place, and has one spot at an arc.
use Rattle.olr_metric.proofs.Common.{◌≡◌, ℕ, ◌<◌, arith, List, sym, ap, ◌∙◌, same_Some, Spot, Near, distance, foot, IsAlong, IsNearest, IsSegment, neither_less}

-- the ends of the segment of a number
record SameEnds (a b c d : Spot) : Type 0 where
  start : a ≡ c
  end : b ≡ d

same_ends : {spots : List Spot} {i j : ℕ} {a b c d : Spot} → i ≡ j → IsSegment spots i a b
    → IsSegment spots j c d → SameEnds a b c d
same_ends {a} {b} {c} {d} same one other = grind (arith, same_Some)

not_before : {spots : List Spot} {p : Spot} {a b : Near} (one : IsNearest spots p a)
    (other : IsNearest spots p b) → one.i < other.i → ⊥
not_before one other less = grind arith

pub one_nearest : (spots : List Spot) (p : Spot) (a b : Near) → IsNearest spots p a
    → IsNearest spots p b → a ≡ b
one_nearest spots p a b one other =
    let same = neither_less (not_before one other) (not_before other one) in
    let ends = same_ends same one.nearest.segment other.nearest.segment in
    let start = ends.start in
    let end = ends.end in
    let spot = one.foot_of ∙ ap (λ (s : Spot). foot p s one.b) start
    ∙ ap (λ (s : Spot). foot p other.a s) end ∙ sym other.foot_of in
    let distance_is = one.distance_of ∙ ap (λ (s : Spot). distance p s) spot
    ∙ sym other.distance_of in
    let arc_is = one.arc_of ∙ rw (same, start, end, spot) (sym other.arc_of) in
    λ i. record { distance = distance_is i; arc = arc_is i; spot = spot i }

not_on_before : {spots : List Spot} {s : ℕ} {a b : Spot} (one : IsAlong spots s a)
    (other : IsAlong spots s b) → one.i < other.i → ⊥
not_on_before one other less = omega (arith, other.at_arc.first one.i less)

pub one_along : (spots : List Spot) (s : ℕ) (a b : Spot) → IsAlong spots s a → IsAlong spots s b
    → a ≡ b
one_along spots s a b one other =
    let same = neither_less (not_on_before one other) (not_on_before other one) in
    let ends = same_ends same one.at_arc.segment other.at_arc.segment in
    one.spot_of ∙ rw (same, ends.start, ends.end) (sym other.spot_of)
