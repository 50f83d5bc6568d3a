-- The least value of a tolerance that is enough lies between two values, which come closer with
-- each trial. So does the greatest one below the given one with which no point has too many
-- candidates.
use Rattle.olr_why.proofs.Common.{KeyValue, Lowest, MatchingHasKey, Tolerance, NoMatching, OneCandidateALine, Reference, RoadMap, Tolerances, ◌≡◌, ◌≢◌, ℕ, ◌+◌, ◌<◌, ◌≤◌, None, Some, inl, inr, arith, Option, MatchOption, cases_lt, AreCrowdedFrom, greatest_of, order_of, least_of, IsEnough, IsLeastEnough, value_of, IsGreatestUncrowded, IsUncrowdedWith, IsBracket, IsNoneUpTo, IsTrialWith, IsGreatest, IsMatchingWith}
use Rattle.olr_why.specs.declared.bracket.Bracket.{Bracket}
use Rattle.olr_why.specs.declared.trial.Trial.TheVariants.{Crowded, Matching}
use Rattle.olr_why.proofs.Tried.{crowded_up_is_none, least_enough, none_up_to, value_in_range, crowded_from}

module _ (road : RoadMap) (reference : Reference) (given : Tolerances) (name : Tolerance) where
  -- no value above the given one is enough
  abbrev pub IsNoneAbove : Type 0
  IsNoneAbove = (value : ℕ) → value_of given name < value → IsEnough road given reference name value
      → ⊥

  -- with each value below the given one some point has too many candidates
  abbrev pub AreAllCrowded : Type 0
  AreAllCrowded = (value : ℕ) → value < value_of given name
      → IsUncrowdedWith road given reference name value → ⊥

module _ {road : RoadMap} {reference : Reference} {given : Tolerances} {name : Tolerance} where
  -- where none is enough up to the greatest value, none is
  pub none_up_to_greatest : IsNoneUpTo road given reference name (greatest_of name)
      → IsNoneAbove road reference given name
  none_up_to_greatest none value above enough =
      none value above (value_in_range enough.is_changed).greatest enough

  -- ---- the first two values

  pub first_two : {low high : ℕ} {first : Option KeyValue} → low ≡ value_of given name
      → high ≡ greatest_of name → low < high
      → MatchOption first (IsTrialWith road given reference name high Crowded)
      (λ key. IsTrialWith road given reference name high (Matching key))
      → IsBracket road given reference name (record { low = low; high = high; first = first })
  first_two low_is high_is lower found = record {
    none = λ value above less enough. omega (arith, low_is, above, less);
    found = found;
    above = omega (arith, low_is);
    lower = lower;
    at_most = omega (arith, high_is);
  }

  -- ---- a value between them

  module _ {bracket : Bracket} (is : IsBracket road given reference name bracket) {middle : ℕ}
      (low : bracket.low < middle)
      (high : middle < bracket.high) where
    pub upper_half : order_of name ≢ order_of Lowest
        → IsTrialWith road given reference name middle NoMatching
        → IsBracket road given reference name
        (record { low = middle; high = bracket.high; first = bracket.first })
    upper_half differ trial = record {
      none = none_up_to differ trial;
      found = is.found;
      above = omega (arith, is.above, low);
      lower = high;
      at_most = is.at_most;
    }

    pub lower_half : {first : Option KeyValue}
        → MatchOption first (IsTrialWith road given reference name middle Crowded)
        (λ key. IsTrialWith road given reference name middle (Matching key))
        → IsBracket road given reference name
        (record { low = bracket.low; high = middle; first = first })
    lower_half found = record {
      none = is.none;
      found = found;
      above = is.above;
      lower = low;
      at_most = omega (arith, is.at_most, high);
    }

  -- ---- no value between them

  module _ {bracket : Bracket} (is : IsBracket road given reference name bracket)
      (close : bracket.high ≤ bracket.low + 1) where
    pub least_in : {key : KeyValue} → MatchingHasKey → bracket.first ≡ Some key
        → IsLeastEnough road given reference name bracket.high key
    least_in law first = least_enough law (omega (arith, is.above, is.lower)) (λ lesser above less.
        is.none lesser above (omega (arith, less, close))) (rw first at is.found)

    pub none_in : OneCandidateALine → order_of name ≢ order_of Lowest → bracket.first ≡ None
        → IsNoneAbove road reference given name
    none_in law differ first value above enough =
        let crowded : IsTrialWith road given reference name bracket.high Crowded =
        rw first at is.found in
        elim (cases_lt value bracket.high) [
          | inl less ↦ is.none value above (omega (arith, less, close)) enough
          | inr greater ↦ crowded_up_is_none differ law greater crowded enough
        ]

  -- ---- values below the given one

  -- where a point has too many candidates with the least value
  pub all_crowded : order_of name ≢ order_of Lowest → OneCandidateALine
      → IsTrialWith road given reference name (least_of name) Crowded
      → AreAllCrowded road reference given name
  all_crowded differ law crowded value below uncrowded =
      crowded_from differ law crowded value (value_in_range uncrowded.is_changed).least below
      uncrowded

  -- from a value on with which one has, or from the given one on
  pub crowded_at : {high : ℕ} → order_of name ≢ order_of Lowest → OneCandidateALine
      → (high < value_of given name → IsTrialWith road given reference name high Crowded)
      → AreCrowdedFrom road given reference name high
  crowded_at differ law crowded value at_least below =
      crowded_from differ law (crowded (omega (arith, at_least, below))) value at_least below

  -- the greatest value from a low one on and below a high one with which none has
  pub greatest_in : {low high value : ℕ} → order_of name ≢ order_of Lowest → OneCandidateALine
      → IsUncrowdedWith road given reference name low
      → AreCrowdedFrom road given reference name high → high ≤ value_of given name
      → low ≤ value → value < high
      → (low < value → IsUncrowdedWith road given reference name value)
      → (value + 1 < high → IsTrialWith road given reference name (value + 1) Crowded)
      → IsGreatest road given reference name value
  greatest_in {low} {high} {value} differ law with_low from_high at_most at_least less uncrowded
      crowded = record {
        below = omega (arith, less, at_most);
        uncrowded = elim (cases_lt low value) [
          | inl above ↦ uncrowded above
          | inr no_more ↦ let same : value ≡ low = omega arith in rw same with_low
        ];
        greatest = elim (cases_lt (value + 1) high) [
          | inl below ↦ crowded_from differ law (crowded below)
          | inr no_less ↦ let same : value + 1 ≡ high = omega arith in rw same from_high
        ];
      }

  -- the first matching that the greatest value gives
  pub greatest_uncrowded : {value : ℕ} (answer : Option KeyValue)
      → IsGreatest road given reference name value
      → IsMatchingWith road given reference name value answer
      → IsGreatestUncrowded road given reference name value answer
  greatest_uncrowded None is none = record {
    below = is.below;
    enough = is.uncrowded;
    greatest = λ greater above below other. is.greatest greater (omega (arith, above)) below other;
    first = λ matching.
        none (record {
          changed = is.uncrowded.changed;
          is_changed = is.uncrowded.is_changed;
          uncrowded = is.uncrowded.uncrowded;
          matching = matching;
        });
  }
  greatest_uncrowded (Some key) is found = record {
    below = is.below;
    enough = record {
      changed = found.changed;
      is_changed = found.is_changed;
      uncrowded = found.is.0;
    };
    greatest = λ greater above below other. is.greatest greater (omega (arith, above)) below other;
    first = found.is.1;
  }
