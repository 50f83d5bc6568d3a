-- Laws on the likely order. Each is the contract of a public function that does nothing at run time.
use Rattle.std.specs.Prelude.{◌≡◌, ◌+◌, ◌*◌, ◌<◌, ◌≤◌, Bool, false, List, length, Some, slice_get, All, AllPairs, Contains, ℕ}
use Rattle.olr_keys.specs.Key.{IsBefore, KeyValue}
use Rattle.olr_keys.specs.Matching.{IsKey}
use Rattle.olr_road.specs.RoadMap.{RoadMap}
use Rattle.olr_matching.specs.Layers.{AreLayersOn, LayersValue}
use Rattle.olr_matching.specs.Matched.{IsMatchedBy}
use Rattle.olr_matching.specs.declared.matched.Matched.{Matched}
use Rattle.olr_detail.specs.Cost.{cost_of}
use Rattle.olr_report.specs.Entries.{Entry}
use Rattle.olr_places.specs.Looking.{gap_of}
use Rattle.olr_places.specs.declared.limits.PlaceLimits.{PlaceLimits}
use Rattle.olr_likely.specs.Finding.{AreLikelyPlaces}
use Rattle.olr_likely.specs.Order.{AreShown, IsLikelier, least_cost}
use Rattle.olr_likely.specs.declared.answer.LikelyPlaces.{LikelyPlaces}
use Rattle.olr_likely.specs.declared.asked.AskedPlaces.{AskedPlaces}
use Rattle.olr_likely.specs.declared.ranked.RankedPlace.{RankedPlace}

-- no place has a lesser cost than the least one
abbrev pub NoneIsLess : Type 0
NoneIsLess = (places : List RankedPlace)
    → All (λ (place : RankedPlace). least_cost places ≤ place.likely.cost) places

-- the places that are shown are in the likely order, and no more than are asked for
pub record AreFirst (limits : PlaceLimits) (shown : List RankedPlace) : Type 0 where
  pub rise : AllPairs IsLikelier shown
  pub at_most : length shown ≤ limits.most

abbrev pub ShownAreFirst : Type 0
ShownAreFirst = (limits : PlaceLimits) (places shown : List RankedPlace)
    → AreShown limits places shown → AreFirst limits shown

-- a place of those that were looked at doesn't cost less than the first one that is shown
pub record IsNoCheaper (shown : List RankedPlace) (place : RankedPlace) : Type 0 where
  pub first : RankedPlace
  pub first_is : slice_get shown 0 ≡ Some first
  pub no_cheaper : first.likely.cost ≤ place.likely.cost

abbrev pub FirstIsLikeliest : Type 0
FirstIsLikeliest = (limits : PlaceLimits) (places shown : List RankedPlace) (place : RankedPlace)
    → AreShown limits places shown → Contains places place → IsNoCheaper shown place

-- no matching costs less than 6 times its total
abbrev pub CostsAreAtLeast : Type 0
CostsAreAtLeast = (road : RoadMap) (layers : LayersValue) (key : KeyValue) (matched : Matched)
    (turns_back : Bool) → AreLayersOn road layers → IsKey layers.penalties key
    → IsMatchedBy road layers key matched → 6 * key.total ≤ cost_of road matched turns_back

-- a matching with this key and this cost wouldn't be shown, by its gap or by its cost
pub record IsBeyond (within least : ℕ) (matchings : List Entry) (key : KeyValue) (cost : ℕ)
    : Type 0 where
  pub gap : within < gap_of matchings key
  pub cost_is : least + 30 * within < cost

-- Where looking was cut off behind a key, and no place is said to be missing, no matching behind
-- this key would be shown.
abbrev pub NoneIsMissing : Type 0
NoneIsMissing = (asked : AskedPlaces) (road : RoadMap) (layers : LayersValue)
    (likely : LikelyPlaces) (last key : KeyValue) (matched : Matched) (turns_back : Bool)
    (are : AreLikelyPlaces asked road layers likely)
    → AreLayersOn road layers → likely.cut ≡ false → likely.next ≡ Some last
    → IsKey layers.penalties key → IsMatchedBy road layers key matched → IsBefore last key
    → IsBeyond asked.limits.within (least_cost are.places) are.looked.matchings key
    (cost_of road matched turns_back)
