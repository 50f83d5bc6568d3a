-- Why a place is no more probable than it is. A reason is what alone halves its share, or doubles that
-- of none, or more: what loses or gains at least 2^24.
use Rattle.std.specs.Prelude.{◌≡◌, ℕ, ◌+◌, ◌-◌, ◌*◌, min, if◌then◌else◌, nat_le, nat_lt, nat_eq, List, [], ◌∷◌, filter, map, Bool, false, Option, None, Some}
use Rattle.olr_detail.specs.Values.{MatchingDetailValue}
use Rattle.olr_detail.specs.declared.candidate_detail.CandidateDetail.{CandidateDetail}
use Rattle.olr_detail.specs.declared.leg_detail.LegDetail.{LegDetail}
use Rattle.olr_confidence.specs.Terms.{AreTermsOf, greatest_by, missed_by}
use Rattle.olr_confidence.specs.inner.Below.{above_zero}
use Rattle.olr_confidence.specs.declared.confidence.Weights.{Weights}
use Rattle.olr_confidence.specs.declared.reason.Reason.{Reason}
use Rattle.olr_confidence.specs.declared.reason.ReasonKind.{ReasonKind}
use Rattle.olr_confidence.specs.declared.reason.ReasonKind.TheVariants.{Behind, Direction, Distance, End, Lines, Longer, Shorter, TurningBack}
use Rattle.olr_confidence.specs.declared.reason.WeighedReason.{WeighedReason}
use Rattle.olr_confidence.specs.declared.terms.Terms.{Terms}

-- the number of the first thing of a list that passes a test, if the first one has this number; and
-- from 1 that of the first one with the greatest number
abbrev pub number_from : {X : Type 0} → (X → Bool) → ℕ → List X → Option ℕ
number_from test number [] = None
number_from test number (one ∷ rest) =
    if test one then Some number else number_from test (number + 1) rest

abbrev pub first_with : {X : Type 0} → (X → ℕ) → List X → Option ℕ
first_with f all = number_from (λ one. nat_eq (f one) (greatest_by f all)) 1 all

-- whether the first leg that misses so much is longer than the reference says
abbrev pub is_longer : ℕ → List LegDetail → Bool
is_longer missed [] = false
is_longer missed (leg ∷ rest) =
    if nat_eq (missed_by leg) missed then nat_lt leg.greatest leg.length else is_longer missed rest

-- whether the first leg that misses most is longer or shorter
abbrev pub kind_of_legs : List LegDetail → ReasonKind
kind_of_legs legs = if is_longer (greatest_by missed_by legs) legs then Longer else Shorter

-- by how much, and what that loses
abbrev pub weighed : ReasonKind → Option ℕ → ℕ → ℕ → WeighedReason
weighed kind at by lost = record { reason = record { kind = kind; at = at; by = by }; lost = lost }

-- those that lose so much
abbrev pub heavy_ones : List WeighedReason → List Reason
heavy_ones all = map (λ (one : WeighedReason). one.reason)
    (filter (λ one. nat_le 16777216 one.lost) all)

module _ (weights : Weights) (detail : MatchingDetailValue) (terms : Terms) where
  -- the route turns back (what that costs is part of the likely cost besides)
  abbrev pub of_turning : WeighedReason
  of_turning = weighed TurningBack None 1 (if terms.turns_back then weights.turning_back else 0)

  -- a leg is longer or shorter than the reference says, by thousandths
  abbrev pub of_leg : WeighedReason
  of_leg = weighed (kind_of_legs detail.legs) (first_with missed_by detail.legs) terms.leg
      (weights.leg * terms.leg)

  -- a point lies beside its line, by centimetres
  abbrev pub of_distance : WeighedReason
  of_distance = weighed Distance
      (first_with (λ (point : CandidateDetail). point.distance) detail.points)
      (greatest_by (λ (point : CandidateDetail). point.distance) detail.points)
      (weights.distance * terms.distance)

  -- the bearing at a point differs, by sectors
  abbrev pub of_direction : WeighedReason
  of_direction = weighed Direction
      (first_with (λ (point : CandidateDetail). point.sectors) detail.points) terms.direction
      (weights.direction * terms.direction)

  -- A point lies away from the proper end of its line, by decimetres. The likely cost counts 500 of
  -- them at most, and no more of it counts than is behind the least cost.
  abbrev pub of_end : ℕ → WeighedReason
  of_end least = weighed End (first_with (λ (point : CandidateDetail). point.end) detail.points)
      (greatest_by (λ (point : CandidateDetail). point.end) detail.points)
      (weights.behind * min (terms.cost - least)
      (min 500 (greatest_by (λ (point : CandidateDetail). point.end) detail.points)))

  -- another place costs less, by thirtieths of a penalty point
  abbrev pub of_behind : ℕ → WeighedReason
  of_behind least = weighed Behind None (terms.cost - least) (weights.behind * (terms.cost - least))

  -- any line of the route may be missing on the sender's map: this is how many it has. It counts for
  -- none of these, by the likeliest place, and so is a reason of places with the least cost alone.
  abbrev pub of_lines : ℕ → ℕ → WeighedReason
  of_lines least count = weighed Lines None count
      (if nat_le terms.cost least then above_zero weights.none_lines * terms.lines else 0)

  -- all of these, where this is the least cost of all places, and the route has so many lines
  abbrev pub all_weighed : ℕ → ℕ → List WeighedReason
  all_weighed least count = of_turning ∷ of_leg ∷ of_distance ∷ of_direction ∷ of_end least
      ∷ of_behind least ∷ of_lines least count ∷ []

  -- the reasons, in this order
  abbrev pub reasons_of : ℕ → ℕ → List Reason
  reasons_of least count = heavy_ones (all_weighed least count)

-- the reasons of a place, where this is the least cost of all places, and its route has so many lines
pub record AreReasonsOf (weights : Weights) (detail : MatchingDetailValue) (least count : ℕ)
    (reasons : List Reason) : Type 0 where
  pub terms : Terms
  pub are_terms : AreTermsOf detail count terms
  pub reasons_are : reasons ≡ reasons_of weights detail terms least count
