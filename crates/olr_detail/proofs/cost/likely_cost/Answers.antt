use Rattle.std.proofs.Common.{◌≡◌, ◌+◌, ◌*◌, ℕ, Bool, List, sum_by, refl}
use Rattle.olr_candidates.specs.declared.candidate.Candidate.{Candidate}
use Rattle.olr_matching.specs.declared.matched.Leg.{Leg}
use Rattle.olr_matching.specs.declared.matched.Matched.{Matched}
use Rattle.olr_road.specs.RoadMap.{RoadMap}
use Rattle.olr_detail.specs.Cost.{cost_of, cost_of_ends, cost_of_turning, ends_of}
use Rattle.olr_detail.proofs.cost.likely_cost.Goals as goal

-- the parts of a cost sum to it
summed : (road : RoadMap) (shown matched : Matched) (turns_back : Bool)
    (candidates ended : List Candidate) (legs : List Leg) (points penalties ends turning : ℕ)
    → shown ≡ matched → candidates ≡ shown.candidates → legs ≡ shown.legs
    → ended ≡ shown.candidates
    → points ≡ sum_by (λ (candidate : Candidate). candidate.penalty) candidates
    → penalties ≡ sum_by (λ (leg : Leg). leg.penalty) legs
    → ends ≡ cost_of_ends (ends_of road ended) → turning ≡ cost_of_turning turns_back
    → 30 * points + 6 * penalties + ends + turning ≡ cost_of road matched turns_back
summed road shown matched turns_back candidates ended legs points penalties ends turning is
    candidates_are legs_are ended_are points_are penalties_are ends_are turning_is =
    rw (points_are, penalties_are, ends_are, turning_is, candidates_are, legs_are, ended_are, is)
    refl

pub returns : goal.returns
returns c = record {
  turns = c.turns_back-turns_back.ensures;
  cost_is = summed c.args.map.now _ c.args.matched.now c.turns_back-turns_back.result
      c.deref.result.now c.deref-3.result.now c.deref-2.result.now _ _ _ _ c.matched.view_is
      c.deref.ensures.0 c.deref-2.ensures.value c.deref-3.ensures.0
      c.sum_of_points-points.ensures.sum c.sum_of_legs-legs.ensures.sum
      c.cost_of_ends-ends.ensures.cost c.cost_of_turning.ensures.cost;
}
