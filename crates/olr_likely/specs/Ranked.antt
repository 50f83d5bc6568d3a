-- The places that were looked at, each with its rank and its likely cost.
use Rattle.std.specs.Prelude.{◌≡◌, ℕ, ◌+◌, List, length, map, Some, slice_get, All}
use Rattle.olr_road.specs.RoadMap.{RoadMap}
use Rattle.olr_detail.specs.Cost.{IsLikelyCost}
use Rattle.olr_report.specs.Entries.{Entry, HasPieces}
use Rattle.olr_places.specs.Looking.{openers_of}
use Rattle.olr_places.specs.Places.{AreCounted, entry_of}
use Rattle.olr_places.specs.declared.limits.PlaceLimits.{PlaceLimits}
use Rattle.olr_places.specs.declared.opener.Opener.{Opener}
use Rattle.olr_likely.specs.declared.ranked.RankedPlace.{RankedPlace}

-- the openers of places
abbrev pub openers_in : List RankedPlace → List Opener
openers_in places = map (λ (place : RankedPlace). place.opener) places

-- the rank of each place is its number in the list, from 1
abbrev pub AreNumbered : List RankedPlace → Type 0
AreNumbered places = (index : ℕ) (place : RankedPlace) → slice_get places index ≡ Some place
    → place.rank ≡ index + 1

-- a place has the likely cost of the matching that opened it
abbrev pub HasLikelyCost : RoadMap → RankedPlace → Type 0
HasLikelyCost road place =
    IsLikelyCost road place.opener.matched place.opener.route.items place.likely

-- the places of these openers, in order, with their ranks and their likely costs
pub record AreRanked (road : RoadMap) (openers : List Opener) (places : List RankedPlace) : Type 0
  where
    pub openers_are : openers_in places ≡ openers
    pub ranks : AreNumbered places
    pub costs : All (HasLikelyCost road) places

-- All places of the matchings that were looked at, in the order in which they opened: each has its
-- opener, whose gap and members are counted, its rank and its likely cost.
pub record AreLookedAt (road : RoadMap) (limits : PlaceLimits) (matchings : List Entry)
    (places : List RankedPlace) : Type 0 where
  pub openers_are : map entry_of (openers_in places) ≡ openers_of limits matchings
  pub counted : AreCounted limits matchings 0 (openers_in places)
  pub ranked : AreRanked road (openers_in places) places

-- ---- what the calls need

-- what a likely cost is made of: one leg fewer than candidates, and a route on lines of the map
pub record CanBeRanked (road : RoadMap) (opener : Opener) : Type 0 where
  pub count : length opener.matched.legs + 1 ≡ length opener.matched.candidates
  pub route : HasPieces road opener.route.items
