-- The places of a reference as they are asked for: in either order, and with more where more is asked
-- for.
use Rattle.std.specs.Prelude.{List, None}
use Rattle.olr_keys.specs.Answers.{AreAnswers}
use Rattle.olr_keys.specs.Key.{KeyValue}
use Rattle.olr_road.specs.RoadMap.{RoadMap}
use Rattle.olr_matching.specs.Layers.{LayersValue}
use Rattle.olr_places.specs.Looking.{IsLooked, Looked}
use Rattle.olr_places.specs.Places.{ArePlacesOf}
use Rattle.olr_places.specs.declared.places.Places.{Places}
use Rattle.olr_likely.specs.Extending.{IsExtended}
use Rattle.olr_likely.specs.Finding.{AreLikelyPlaces}
use Rattle.olr_likely.specs.Showing.{AreShownByCost, AreShownByTotal}
use Rattle.olr_likely.specs.declared.answer.LikelyPlaces.{LikelyPlaces}
use Rattle.olr_likely.specs.declared.asked.AskedPlaces.{AskedPlaces}
use Rattle.olr_likely.specs.declared.asked.PlaceOrder.{PlaceOrder}
use Rattle.olr_likely.specs.declared.asked.PlaceOrder.TheVariants.{Likely, Total}
use Rattle.olr_likely.specs.declared.showing.ShownPlaces.{ShownPlaces}

module _ (asked : AskedPlaces) (road : RoadMap) (layers : LayersValue) where
  -- the places in the order of totals, of which no confidence says anything
  pub record AreAskedByTotal (shown : ShownPlaces) : Type 0 where
    pub answers : List KeyValue
    pub looked : Looked
    pub places : Places
    pub found : ShownPlaces
    pub are_answers : AreAnswers layers.penalties answers
    pub is_looked : IsLooked asked.limits road layers answers looked
    pub are_places : ArePlacesOf asked.limits looked places
    pub are_shown : AreShownByTotal places found
    pub is_extended : IsExtended asked.detailed None road layers found shown

  -- the places in the likely order, with what a confidence says of those that were looked at
  pub record AreAskedByCost (shown : ShownPlaces) : Type 0 where
    pub likely : LikelyPlaces
    pub found : ShownPlaces
    pub are_likely : AreLikelyPlaces asked road layers likely
    pub are_shown : AreShownByCost likely found
    pub is_extended : IsExtended asked.detailed likely.chances road layers found shown

  abbrev pub AreAskedIn : PlaceOrder → ShownPlaces → Type 0
  AreAskedIn Total shown = AreAskedByTotal shown
  AreAskedIn Likely shown = AreAskedByCost shown

  -- the places in the order that is asked for
  abbrev pub AreAsked : ShownPlaces → Type 0
  AreAsked shown = AreAskedIn asked.order shown
