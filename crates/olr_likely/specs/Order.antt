-- The likely order of places, and which of them are shown. Costs are in thirtieths of a penalty
-- point, gaps in penalty points. (All of this is this project's choice.)
use Rattle.std.specs.Prelude.{◌≡◌, ℕ, ◌+◌, ◌*◌, ◌<◌, ◌⊎◌, Bool, ◌||◌, nat_le, List, [], ◌∷◌, min, take, filter, AllPairs, IsPermutation}
use Rattle.olr_places.specs.declared.limits.PlaceLimits.{PlaceLimits}
use Rattle.olr_likely.specs.declared.ranked.RankedPlace.{RankedPlace}

-- a place comes before another one: by the cost, and where this is the same by the rank
abbrev pub IsLikelier : RankedPlace → RankedPlace → Type 0
IsLikelier one other = (one.likely.cost < other.likely.cost)
    ⊎ ((one.likely.cost ≡ other.likely.cost) × (one.rank < other.rank))

-- the same places, in this order
pub record AreInLikelyOrder (places ordered : List RankedPlace) : Type 0 where
  pub same : IsPermutation places ordered
  pub rise : AllPairs IsLikelier ordered

-- the least cost of these places; 0 where there is none
abbrev pub least_cost : List RankedPlace → ℕ
least_cost [] = 0
least_cost (place ∷ []) = place.likely.cost
least_cost (place ∷ next ∷ rest) = min place.likely.cost (least_cost (next ∷ rest))

-- A place is shown where its gap is at most what is asked for, or its cost at most the least cost
-- of all places that were looked at and 30 times that, which is as many penalty points.
abbrev pub is_shown : ℕ → ℕ → RankedPlace → Bool
is_shown within least place = nat_le place.opener.gap within
    || nat_le place.likely.cost (least + 30 * within)

-- Of all places that were looked at, in the likely order, the first ones that are shown: as many
-- as are asked for, or all.
pub record AreShown (limits : PlaceLimits) (places shown : List RankedPlace) : Type 0 where
  pub ordered : List RankedPlace
  pub in_order : AreInLikelyOrder places ordered
  pub first :
      shown ≡ take limits.most (filter (is_shown limits.within (least_cost places)) ordered)
