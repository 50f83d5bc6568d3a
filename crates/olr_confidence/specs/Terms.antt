-- What counts for and against a place, in whole numbers: made of what speaks for the matching that
-- opened it, and of how many lines its route has.
use Rattle.std.specs.Prelude.{◌≡◌, ℕ, ◌+◌, ◌-◌, ◌*◌, ◌/◌, min, max, List, [], ◌∷◌, length, sum_by}
use Rattle.olr_metric.specs.Root.{IsRoot}
use Rattle.olr_detail.specs.Values.{MatchingDetailValue}
use Rattle.olr_detail.specs.declared.candidate_detail.CandidateDetail.{CandidateDetail}
use Rattle.olr_detail.specs.declared.leg_detail.LegDetail.{LegDetail}
use Rattle.olr_confidence.specs.declared.terms.Terms.{Terms}

-- the greatest number of things in a list, by what number each has; 0 where there is none
abbrev pub greatest_by : {X : Type 0} → (X → ℕ) → List X → ℕ
greatest_by f [] = 0
greatest_by f (one ∷ rest) = max (f one) (greatest_by f rest)

-- how far the length of a leg lies outside of the distance interval, in thousandths of the first length
-- behind the interval: 1000 at most
abbrev pub missed_by : LegDetail → ℕ
missed_by leg = min 1000 (1000 * ((leg.length - leg.greatest) + (leg.least - leg.length))
    / (leg.greatest + 1))

-- the length of the route, in decimetres
abbrev pub length_of : List LegDetail → ℕ
length_of legs = sum_by (λ (leg : LegDetail). leg.length) legs

-- a distance in centimetres, in thousandths of a length in decimetres: 1000 at most, and 0 of the length
-- 0
abbrev pub share_of_length : ℕ → ℕ → ℕ
share_of_length distance length = min 1000 (100 * distance / length)

-- what counts for and against a place
pub record AreTermsOf (detail : MatchingDetailValue) (count : ℕ) (terms : Terms) : Type 0 where
  pub distance : terms.distance ≡ share_of_length
      (greatest_by (λ (point : CandidateDetail). point.distance) detail.points)
      (length_of detail.legs)
  pub direction : terms.direction
      ≡ greatest_by (λ (point : CandidateDetail). point.sectors) detail.points
  pub leg : terms.leg ≡ greatest_by missed_by detail.legs
  pub cost : terms.cost ≡ detail.likely.cost
  pub turns_back : terms.turns_back ≡ detail.likely.turns_back
  pub points : terms.points ≡ min 100 (length detail.points)
  pub lines : IsRoot (16 * min 100000 count) terms.lines
  pub length_is : IsRoot (min 1000000 (length_of detail.legs)) terms.length
