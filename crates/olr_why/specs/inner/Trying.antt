-- What is known of the values of one tolerance while a remedy is looked for, all else being as
-- given.
use Rattle.std.specs.Prelude.{ℕ, ◌+◌, ◌<◌, ◌≤◌, Option, MatchOption}
use Rattle.olr_why.specs.Common.{KeyValue, Tolerance, Reference, RoadMap, Tolerances}
use Rattle.olr_candidates.specs.Tolerances.{greatest_of}
use Rattle.olr_why.specs.Remedies.{IsChanged, IsEnough, IsUncrowdedWith, value_of}
use Rattle.olr_why.specs.inner.Trial.{IsTrial}
use Rattle.olr_why.specs.declared.bracket.Bracket.{Bracket}
use Rattle.olr_why.specs.declared.trial.Trial.{Trial}
use Rattle.olr_why.specs.declared.trial.Trial.TheVariants.{Crowded, Matching}

module _ (road : RoadMap) (given : Tolerances) (reference : Reference) (name : Tolerance) where
  -- ---- one value

  -- what is found with this value
  pub record IsTrialWith (value : ℕ) (trial : Trial) : Type 0 where
    pub changed : Tolerances
    pub is_changed : IsChanged name value given changed
    pub is : IsTrial road changed reference trial

  -- the key of the first matching that this value gives; none where the value isn't enough
  abbrev pub IsMatchingWith : ℕ → Option KeyValue → Type 0
  IsMatchingWith value answer = MatchOption answer (IsEnough road given reference name value → ⊥)
      (λ key. IsTrialWith value (Matching key))

  -- ---- values above the given one

  -- none up to this one is enough
  abbrev pub IsNoneUpTo : ℕ → Type 0
  IsNoneUpTo low = (value : ℕ) → value_of given name < value → value ≤ low
      → IsEnough road given reference name value → ⊥

  -- None up to the low end is enough; the high end is enough, with this first matching, or with it
  -- a point has more than 64 candidates.
  pub record IsBracket (bracket : Bracket) : Type 0 where
    pub none : IsNoneUpTo bracket.low
    pub found : MatchOption bracket.first (IsTrialWith bracket.high Crowded)
        (λ key. IsTrialWith bracket.high (Matching key))
    pub above : value_of given name ≤ bracket.low
    pub lower : bracket.low < bracket.high
    pub at_most : bracket.high ≤ greatest_of name

  -- ---- values below the given one

  -- with each from this one on, some point has more than 64 candidates
  abbrev pub AreCrowdedFrom : ℕ → Type 0
  AreCrowdedFrom high = (value : ℕ) → high ≤ value → value < value_of given name
      → IsUncrowdedWith road given reference name value → ⊥

  -- the greatest value with which no point has more than 64 candidates
  pub record IsGreatest (value : ℕ) : Type 0 where
    pub below : value < value_of given name
    pub uncrowded : IsUncrowdedWith road given reference name value
    pub greatest : AreCrowdedFrom (value + 1)
