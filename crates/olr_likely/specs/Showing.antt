-- Places as they are shown: in the order of totals or in the likely order.
use Rattle.std.specs.Prelude.{◌≡◌, map, None, Some}
use Rattle.olr_road.specs.RoadMap.{RoadMap}
use Rattle.olr_matching.specs.Layers.{LayersValue}
use Rattle.olr_places.specs.Places.{IsOpenerAt, verdict_in}
use Rattle.olr_places.specs.Looking.{key_behind}
use Rattle.olr_places.specs.declared.opener.Opener.{Opener}
use Rattle.olr_places.specs.declared.places.Places.{Places}
use Rattle.olr_likely.specs.declared.answer.LikelyPlaces.{LikelyPlaces}
use Rattle.olr_likely.specs.declared.ranked.RankedPlace.{RankedPlace}
use Rattle.olr_likely.specs.declared.showing.ShownPlace.{ShownPlace}
use Rattle.olr_likely.specs.declared.showing.ShownPlaces.{ShownPlaces}

-- the place of an opener, in the order of totals
abbrev pub shown_by_total : Opener → ShownPlace
shown_by_total opener = record { opener = opener; likely = None; detail = None; told = None }

-- a place in the likely order, which shows its rank and its cost
abbrev pub shown_by_cost : RankedPlace → ShownPlace
shown_by_cost place = record {
  opener = place.opener;
  likely = Some (record { rank = place.rank; cost = place.likely.cost });
  detail = None;
  told = None;
}

-- what is shown of places in the order of totals
pub record AreShownByTotal (places : Places) (shown : ShownPlaces) : Type 0 where
  pub places_are : shown.places.items ≡ map shown_by_total places.openers.items
  pub looked_is : shown.looked ≡ places.looked
  pub margin_is : shown.margin ≡ places.margin
  pub next_is : shown.next ≡ key_behind places.ending places.last
  pub cut_is : shown.cut ≡ None
  pub verdict_is : shown.verdict ≡ verdict_in places
  pub told_is : shown.told ≡ None
  pub differs_is : shown.differs ≡ None

-- and in the likely order
pub record AreShownByCost (likely : LikelyPlaces) (shown : ShownPlaces) : Type 0 where
  pub places_are : shown.places.items ≡ map shown_by_cost likely.places.items
  pub looked_is : shown.looked ≡ likely.looked
  pub margin_is : shown.margin ≡ likely.margin
  pub next_is : shown.next ≡ likely.next
  pub cut_is : shown.cut ≡ Some likely.cut
  pub verdict_is : shown.verdict ≡ likely.verdict
  pub told_is : shown.told ≡ None
  pub differs_is : shown.differs ≡ None

-- the place was opened by a matching of these layers
abbrev pub IsShownAt : RoadMap → LayersValue → ShownPlace → Type 0
IsShownAt road layers place = IsOpenerAt road layers place.opener
