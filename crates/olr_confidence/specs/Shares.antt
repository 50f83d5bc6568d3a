-- How probable places are, and that none of them is right, by how far their worths lie below the
-- greatest one. A worth that is 2^24 greater is twice the share.
use Rattle.std.specs.Prelude.{◌≡◌, ℕ, ◌+◌, ◌*◌, ◌/◌, List, map, sum, sum_by}
use Rattle.olr_confidence.specs.Power.{power}
use Rattle.olr_confidence.specs.declared.shares.Probabilities.{Probabilities}

-- all shares together, that of none and those of the places: each is 2 to the power of how far its
-- worth lies below the greatest one
abbrev pub whole_of : ℕ → List ℕ → ℕ
whole_of none places = power none + sum_by power places

-- a share in the whole, in millionths, rounded down
abbrev pub millionths_of : ℕ → ℕ → ℕ
millionths_of whole below = 1000000 * power below / whole

-- how probable the places are
abbrev pub probabilities_of : ℕ → List ℕ → List ℕ
probabilities_of none places = map (millionths_of (whole_of none places)) places

-- the places are as probable, and none has the rest of a million
pub record AreProbabilities (none : ℕ) (places : List ℕ) (found : Probabilities) : Type 0 where
  pub places_are : found.places.items ≡ probabilities_of none places
  pub together : sum found.places.items + found.none ≡ 1000000
