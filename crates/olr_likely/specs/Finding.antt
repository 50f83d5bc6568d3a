-- The places of a reference on a map in the likely order.
use Rattle.std.specs.Prelude.{◌≡◌, List, length, Option}
use Rattle.olr_keys.specs.Answers.{AreAnswers}
use Rattle.olr_keys.specs.Key.{KeyValue}
use Rattle.olr_road.specs.RoadMap.{RoadMap}
use Rattle.olr_matching.specs.Layers.{LayersValue}
use Rattle.olr_places.specs.Looking.{IsLooked, Looked}
use Rattle.olr_places.specs.Looking.{next_of}
use Rattle.olr_places.specs.declared.limits.PlaceLimits.{PlaceLimits}
use Rattle.olr_likely.specs.Answer.{IsAnswerOf}
use Rattle.olr_likely.specs.Chances.{AreChancesIf}
use Rattle.olr_likely.specs.Ranked.{AreLookedAt}
use Rattle.olr_likely.specs.declared.answer.LikelyPlaces.{LikelyPlaces}
use Rattle.olr_likely.specs.declared.asked.AskedPlaces.{AskedPlaces}
use Rattle.olr_likely.specs.declared.chances.Chances.{Chances}
use Rattle.olr_likely.specs.declared.ranked.RankedPlace.{RankedPlace}

-- Limits by which as many places are looked at as can be asked for: 100 of them, with the greatest
-- gap there is. Matchings are told apart as by others, and as many are looked at.
pub record AreWidest (limits widest : PlaceLimits) : Type 0 where
  pub apart : widest.apart ≡ limits.apart
  pub look : widest.look ≡ limits.look
  pub within : widest.within ≡ 14620
  pub most : widest.most ≡ 100

-- The matchings of a reference are looked at by the widest limits, but no more of them than are asked
-- for. What is answered is of all places that they open, and so is what a confidence says, if one is
-- given: of places behind it knows nothing.
pub record AreLikelyPlaces (asked : AskedPlaces) (road : RoadMap) (layers : LayersValue)
    (likely : LikelyPlaces) : Type 0 where
  pub widest : PlaceLimits
  pub answers : List KeyValue
  pub looked : Looked
  pub places : List RankedPlace
  pub chances : Option Chances
  pub are_widest : AreWidest asked.limits widest
  pub are_answers : AreAnswers layers.penalties answers
  pub is_looked : IsLooked widest road layers answers looked
  pub are_looked_at : AreLookedAt road widest looked.matchings places
  pub are_chances : AreChancesIf asked.confidence asked.limits.apart road layers places chances
  pub is_answer : IsAnswerOf asked.limits (length looked.matchings) looked.ending (next_of looked)
      chances places likely
