-- What is found for a reference on a map with some tolerances.
use Rattle.std.specs.Prelude.{◌≡◌, ℕ, List, Option, slice_get}
use Rattle.olr_why.specs.Common.{AreAnswers, HasTooMany, KeyValue, Reference, RoadMap, Tolerances}
use Rattle.olr_keys.specs.Table.{Penalties}
use Rattle.olr_why.specs.Chain.{HasMatching, IsFirstMatching, IsUncrowded}
use Rattle.olr_why.specs.declared.trial.Trial.{Trial}
use Rattle.olr_why.specs.declared.trial.Trial.TheVariants.{Crowded, Matching, NoMatching}

-- the first of the keys of a table, if it has one
pub record IsFirstKey (penalties : Penalties) (first : Option KeyValue) : Type 0 where
  pub answers : List KeyValue
  pub are : AreAnswers penalties answers
  pub is : slice_get answers 0 ≡ first

module _ (road : RoadMap) (tolerances : Tolerances) (reference : Reference) where
  -- a point has more than 64 candidates
  abbrev pub IsCrowded : Type 0
  IsCrowded = (index : ℕ) × HasTooMany tolerances reference road.lines index

  -- A point has more than 64 candidates; or none has, and there is no matching, or this is the key
  -- of the first one.
  abbrev pub IsTrial : Trial → Type 0
  IsTrial Crowded = IsCrowded
  IsTrial NoMatching = IsUncrowded road tolerances reference
      × (HasMatching road tolerances reference → ⊥)
  IsTrial (Matching key) = IsUncrowded road tolerances reference
      × IsFirstMatching road tolerances reference key
