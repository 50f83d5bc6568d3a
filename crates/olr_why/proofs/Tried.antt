-- What one trial tells of the value that was tried, and of greater and lesser values.
use Rattle.olr_why.proofs.Common.{all_at, IsTolerance, KeyValue, Lowest, MatchingHasKey, Tolerance, OneCandidateALine, order_of, points_of, Reference, RoadMap, Tolerances, ◌≢◌, ℕ, ◌<◌, ◌≤◌, subst, slice_get_within, in_range, IsKey, HasMatching, IsFirstMatching, IsUncrowded, IsChanged, IsEnough, IsLeastEnough, value_of, IsCrowded, AreCrowdedFrom, IsNoneUpTo, IsTrialWith}
use Rattle.olr_why.specs.declared.trial.Trial.TheVariants.{Crowded, Matching, NoMatching}
use Rattle.olr_why.proofs.AtMost.{AreAtMost, at_most_same, at_most_wider}
use Rattle.olr_why.proofs.Widened.{matching, too_many}

-- ---- ranges

-- a value that a tolerance has is within its range
pub value_in_range : {name : Tolerance} {value : ℕ} {given changed : Tolerances}
    → IsChanged name value given changed → IsTolerance name value
value_in_range {name} {changed =
    changed} is = subst (λ (v : ℕ). IsTolerance name v) is.changed_is (in_range changed name)

module _ (road : RoadMap) (reference : Reference) where
  -- ---- some tolerances

  -- a first matching is a matching
  pub has_matching : {tolerances : Tolerances} {key : KeyValue} → MatchingHasKey
      → IsFirstMatching road tolerances reference key → HasMatching road tolerances reference
  has_matching {key = key} law first =
      let is : IsKey first.layers.penalties key =
      all_at (IsKey first.layers.penalties) first.answers 0 key first.are.only first.first in
      rw (← first.reference_is, ← first.tolerances_is)
      ((law road first.layers first.on).1 (key, is))

  -- a point has too many candidates, or none has
  pub not_both : (tolerances : Tolerances) → IsCrowded road tolerances reference
      → IsUncrowded road tolerances reference → ⊥
  not_both tolerances (index, many) none =
      none index (slice_get_within (points_of reference) index many.point many.point_is) many

  -- and with tolerances that are at least these too
  still_crowded : {before after : Tolerances} → OneCandidateALine → AreAtMost before after
      → IsCrowded road before reference → IsUncrowded road after reference → ⊥
  still_crowded {after = after} law wide (index, many) =
      not_both after (index, too_many wide law reference road.lines index many)

module _ {road : RoadMap} {reference : Reference} {given : Tolerances} {name : Tolerance} where
  -- ---- the value that was tried

  -- a value with which a point has too many candidates isn't enough
  pub crowded_is_none : {value : ℕ} → OneCandidateALine
      → IsTrialWith road given reference name value Crowded
      → IsEnough road given reference name value → ⊥
  crowded_is_none law trial enough =
      still_crowded road reference law (at_most_same trial.is_changed enough.is_changed) trial.is
      enough.uncrowded

  -- one that gives no matching isn't enough
  pub without_is_none : {value : ℕ} → IsTrialWith road given reference name value NoMatching
      → IsEnough road given reference name value → ⊥
  without_is_none trial enough =
      trial.is.1 (matching (at_most_same enough.is_changed trial.is_changed) road reference
      enough.matching)

  -- one that gives a first matching is the least, where no lesser one is enough
  pub least_enough : {value : ℕ} {key : KeyValue} → MatchingHasKey → value_of given name < value
      → ((lesser : ℕ) → value_of given name < lesser → lesser < value
      → IsEnough road given reference name lesser → ⊥)
      → IsTrialWith road given reference name value (Matching key)
      → IsLeastEnough road given reference name value key
  least_enough law above least trial = record {
    above = above;
    enough = record {
      changed = trial.changed;
      is_changed = trial.is_changed;
      uncrowded = trial.is.0;
      matching = has_matching road reference law trial.is.1;
    };
    least = least;
    first = trial.is.1;
  }

  -- ---- other values

  module _ (differ : order_of name ≢ order_of Lowest) where
    -- where a value gives no matching, no lesser one does
    pub none_up_to : {value : ℕ} → IsTrialWith road given reference name value NoMatching
        → IsNoneUpTo road given reference name value
    none_up_to trial lesser above less enough =
        trial.is.1 (matching (at_most_wider less enough.is_changed trial.is_changed differ) road
        reference enough.matching)

    -- where a point has too many candidates with a value, it has with each greater one
    crowded_up : {value greater : ℕ} {changed : Tolerances} → OneCandidateALine → value ≤ greater
        → IsTrialWith road given reference name value Crowded
        → IsChanged name greater given changed → IsUncrowded road changed reference → ⊥
    crowded_up law less crowded is =
        still_crowded road reference law (at_most_wider less crowded.is_changed is differ)
        crowded.is

    pub crowded_up_is_none : {value greater : ℕ} → OneCandidateALine → value ≤ greater
        → IsTrialWith road given reference name value Crowded
        → IsEnough road given reference name greater → ⊥
    crowded_up_is_none law less crowded enough =
        crowded_up law less crowded enough.is_changed enough.uncrowded

    pub crowded_from : {value : ℕ} → OneCandidateALine
        → IsTrialWith road given reference name value Crowded
        → AreCrowdedFrom road given reference name value
    crowded_from law crowded greater less below uncrowded =
        crowded_up law less crowded uncrowded.is_changed uncrowded.uncrowded
