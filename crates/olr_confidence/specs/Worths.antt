-- What a place and "none of these" are worth: a worth that is 2^24 greater is twice the share. A place
-- is worth 0 less what it loses.
use Rattle.std.specs.Prelude.{◌≡◌, ℕ, ◌+◌, ◌-◌, ◌*◌, ◌⊎◌, min, ℤ, pos, ◌+ℤ◌, ◌-ℤ◌, ◌*ℤ◌, ◌≤ℤ◌, neg_ℤ, nat_abs, if◌then◌else◌, List, [], ◌∷◌, All, Contains, map, find, nat_eq, Option, None, Some}
use Rattle.olr_confidence.specs.Shares.{AreProbabilities}
use Rattle.olr_confidence.specs.declared.confidence.Weights.{Weights}
use Rattle.olr_confidence.specs.declared.shares.Probabilities.{Probabilities}
use Rattle.olr_confidence.specs.declared.terms.Terms.{Terms}

-- the least cost of places; 0 where there is none
abbrev pub least_cost : List Terms → ℕ
least_cost [] = 0
least_cost (place ∷ []) = place.cost
least_cost (place ∷ next ∷ rest) = min place.cost (least_cost (next ∷ rest))

-- what a place loses by what counts against it, where this is the least cost of all places
abbrev pub lost_by : Weights → ℕ → Terms → ℕ
lost_by weights least place = weights.distance * place.distance
    + weights.direction * place.direction
    + weights.leg * place.leg
    + weights.behind * (place.cost - least)
    + (if place.turns_back then weights.turning_back else 0)

-- what none of these is worth, by the likeliest place
abbrev pub worth_of_none : Weights → Terms → ℤ
worth_of_none weights likeliest = weights.none
    +ℤ weights.none_points *ℤ pos (likeliest.points - 2)
    +ℤ weights.none_lines *ℤ pos likeliest.lines
    +ℤ weights.none_length *ℤ pos likeliest.length

-- what each place loses
abbrev pub losses_of : Weights → List Terms → List ℕ
losses_of weights places = map (lost_by weights (least_cost places)) places

-- the worth of a place that loses this
abbrev pub worth_of : ℕ → ℤ
worth_of lost = neg_ℤ (pos lost)

-- the greatest worth: it is that of none of these or of a place, and none is greater
pub record IsGreatest (none : ℤ) (places : List ℤ) (greatest : ℤ) : Type 0 where
  pub is_one : (greatest ≡ none) ⊎ Contains places greatest
  pub none_at_most : none ≤ℤ greatest
  pub places_at_most : All (λ worth. worth ≤ℤ greatest) places

-- how far a worth lies below the greatest one
abbrev pub below : ℤ → ℤ → ℕ
below greatest worth = nat_abs (greatest -ℤ worth)

-- Probabilities are those of these worths, by how far each lies below the greatest one.
pub record AreOfWorths (none : ℤ) (places : List ℤ) (found : Probabilities) : Type 0 where
  pub greatest : ℤ
  pub is_greatest : IsGreatest none places greatest
  pub are_probabilities :
      AreProbabilities (below greatest none) (map (below greatest) places) found

-- the first place with the least cost: the likeliest one
abbrev pub likeliest_of : List Terms → Option Terms
likeliest_of places = find (λ (place : Terms). nat_eq place.cost (least_cost places)) places

-- How probable the places are, and that none of them is right, where this is the likeliest place.
-- Where there is no place, none is right.
abbrev pub AreProbableBy : Weights → List Terms → Option Terms → Probabilities → Type 0
AreProbableBy weights places None found = (found.places.items ≡ []) × (found.none ≡ 1000000)
AreProbableBy weights places (Some likeliest) found = AreOfWorths (worth_of_none weights likeliest)
    (map worth_of (losses_of weights places)) found

abbrev pub AreProbable : Weights → List Terms → Probabilities → Type 0
AreProbable weights places found = AreProbableBy weights places (likeliest_of places) found
