-- What holds of each candidate of a point.
use Rattle.std.specs.Int.{abs_diff}
use Rattle.olr_candidates.proofs.Common.{Near, Spot, Coordinates, coordinates_of, spot_of, arc, IsNearest, Point, RoadLine, Line, IsSoundLine, Candidate, Projection, Tolerances, IsOneOf, polyline_of, ◌≡◌, ℕ, suc, zero, ◌*◌, ◌/◌, ◌<◌, ◌≤◌, Bool, List, length, All, Option, Some, arith, slice_get, cond_both, div_below, mul-le, slice_get_within, MeetsConditions, IsOnLine, penalty_of}
use Rattle.olr_metric.specs.Difference.{difference}
use Rattle.olr_candidates.specs.Form.{form_penalty}
use Rattle.olr_candidates.proofs.LineCandidates.{sound_at}

-- ---- the penalty

-- the sectors' laws
abbrev pub SectorsAtMost : Type 0
SectorsAtMost = (a : Option ℕ) (b : ℕ) → difference a b ≤ 16

form_at_most : (a b : ℕ) → form_penalty a b ≤ 30
form_at_most a b = grind (arith, cond_both)

away_at_most : (distance radius : ℕ) → 1 ≤ radius → distance ≤ 100 * radius
    → distance / radius ≤ 100
away_at_most distance radius positive near = grind (arith, div_below)

classes_at_most : {a b : ℕ} → a ≤ 7 → b < 8 → abs_diff a b ≤ 7
classes_at_most one other = omega arith

pub penalty_at_most : SectorsAtMost
    → (tolerances : Tolerances) (point : Point) {is_last : Bool} (line : Line)
    (projection : Projection) → MeetsConditions tolerances point is_last line projection
    → line.class ≤ 7 → penalty_of tolerances point line projection ≤ 360
penalty_at_most sectors tolerances point line projection is class =
    grind (arith, away_at_most, classes_at_most, form_at_most)

-- ---- the place

-- the plane's laws
abbrev pub NearestWithin : Type 0
NearestWithin = (spots : List Spot) (p : Spot) (near : Near) → IsNearest spots p near
    → near.arc ≤ arc spots

-- a share of a length is no greater
share_at_most : (part length whole : ℕ) → part ≤ whole → part * length / whole ≤ length
share_at_most part length zero within = let none : part ≡ 0 = omega arith in rw none (omega arith)
share_at_most part length (suc w) within =
    let less = mul-le part length (suc w) length within (omega arith) in
    omega (arith, div_below (part * length) (suc w) (suc length) (omega arith) (omega arith))

-- ---- the candidates of a point

module _ (tolerances : Tolerances) (origin : Coordinates) (point : Point) (is_last : Bool)
    (lines : List RoadLine) where
  pub on_a_line : (candidate : Candidate) → IsOneOf tolerances origin point is_last lines candidate
      → candidate.place.line < length lines
  on_a_line candidate is = let line = is.1.2.rates.line_is in
      omega (arith, slice_get_within lines is.0 is.1.0 is.1.1)

  pub fits : SectorsAtMost → (nodes : ℕ) → All (IsSoundLine nodes) lines → (candidate : Candidate)
      → IsOneOf tolerances origin point is_last lines candidate → candidate.penalty ≤ 360
  fits sectors nodes sound candidate is = omega (
    arith,
    penalty_at_most sectors _ _ _ _ is.1.2.rates.conditions (sound_at _ _ sound is.1.1).class,
  )

  -- its line
  line_is : (candidate : Candidate) (is : IsOneOf tolerances origin point is_last lines candidate)
      (line : RoadLine) → slice_get lines candidate.place.line ≡ Some line → is.1.0 ≡ line
  line_is candidate is line at = cc

  pub driven : (candidate : Candidate) → IsOneOf tolerances origin point is_last lines candidate
      → (line : RoadLine) → slice_get lines candidate.place.line ≡ Some line
      → IsOnLine is_last line.length candidate.place.at
  driven candidate is line at = grind (arith, line_is)

  pub no_further : NearestWithin → (candidate : Candidate)
      → IsOneOf tolerances origin point is_last lines candidate → (line : RoadLine)
      → slice_get lines candidate.place.line ≡ Some line → candidate.place.at ≤ line.length
  no_further within candidate is line at =
      rw (← (line_is _ is _ at)) (rw (is.1.2.rates.at_is, is.1.2.is_projection.at_is)
      (share_at_most _ _ _ (within (polyline_of origin is.1.0)
      (spot_of origin (coordinates_of point.at)) is.1.2.is_projection.near
      is.1.2.is_projection.nearest)))
