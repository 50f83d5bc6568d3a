-- Searches for the lengths of a leg, and those of a reference on a map that are kept.
use Rattle.std.specs.Prelude.{◌≡◌, ℕ, ◌<◌, List, All, HoldsAt, length, map}
use Rattle.olr_matching.specs.Common.{Candidate, IsDeparture, Place, RoadMap}
use Rattle.olr_route.specs.Reach.{AreLengthsOn, Lengths, Covers}
use Rattle.olr_route.specs.Sharing.{Serves}
use Rattle.olr_matching.specs.Leg.{class_limit, greatest_admitted}
use Rattle.olr_matching.specs.declared.leg_on_map.LegOnMap.{LegOnMap}

-- the places of candidates
abbrev pub places_of : List Candidate → List Place
places_of candidates = map (λ (candidate : Candidate). candidate.place) candidates

-- Each of them was made on this map. Any of them may be missing.
abbrev pub AreSearchesOn : RoadMap → List Lengths → Type 0
AreSearchesOn road searches = All (AreLengthsOn road) searches

-- A search tells the lengths of a leg from a place: it was made on the leg's map, under the leg's
-- class limit and up to the greatest length that the leg admits; it serves the place, and tells the
-- length to each of the second candidates.
pub record IsSearchFor (leg : LegOnMap) (from : Place) (reach : Lengths) : Type 0 where
  pub held : AreLengthsOn leg.map.now reach
  pub class : reach.class ≡ class_limit leg.tolerances leg.next
  pub limit : reach.limit ≡ greatest_admitted leg.tolerances leg.next
  pub departure : IsDeparture leg.map.now from
  pub serves : Serves leg.map.now reach.class reach.from from
  pub covers : All (λ (second : Candidate). Covers reach second.place.line) leg.seconds.now

-- one of the searches that are kept, by its index, tells the lengths of a leg from a place
abbrev pub IsFound : LegOnMap → Place → List Lengths → ℕ → Type 0
IsFound leg from searches index = (index < length searches)
    × HoldsAt (IsSearchFor leg from) searches index
