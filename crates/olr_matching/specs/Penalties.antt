-- The penalties of the legs of a reference, from their lengths.
use Rattle.std.specs.Prelude.{◌≡◌, ℕ, ◌<◌, List, [], length, Option, slice_index_or}
use Rattle.olr_matching.specs.Common.{Next, Reference}
use Rattle.olr_matching.specs.Layers.{LeadsOn, leg_penalties}

-- the penalties of the leg from a point of a reference to the next one, for these lengths
abbrev pub ArePenaltiesOfLeg : Reference → ℕ → List (Option ℕ) → List (Option ℕ) → Type 0
ArePenaltiesOfLeg reference layer lengths penalties = (next : Next) → LeadsOn reference layer next
    → penalties ≡ leg_penalties next lengths

-- the penalties of all legs
pub record ArePenaltiesOfLegs (reference : Reference) (lengths legs : List (List (Option ℕ))) : Type
    0 where
  pub count : length legs ≡ length lengths
  pub each : (layer : ℕ) → layer < length legs
      → ArePenaltiesOfLeg reference layer (slice_index_or lengths layer [])
      (slice_index_or legs layer [])
