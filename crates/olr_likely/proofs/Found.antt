-- What is answered of the places that were found by the widest limits.
use Rattle.std.proofs.lemmas.List.Elements.{All-filter, All-take}
use Rattle.std.proofs.lemmas.List.Sorted.{All-permutation}
use Rattle.std.proofs.Common.{All, ◌≡◌, List, Option, map, refl, ap, ◌∙◌}
use Rattle.olr_keys.specs.Answers.{AreAnswers}
use Rattle.olr_keys.specs.Key.{KeyValue}
use Rattle.olr_keys.specs.Laws.{KeysAreInRange}
use Rattle.olr_keys.specs.Table.{IsTable}
use Rattle.olr_road.specs.RoadMap.{RoadMap}
use Rattle.olr_matching.specs.Layers.{LayersValue}
use Rattle.olr_places.specs.Looking.{IsLooked, Looked, openers_of}
use Rattle.olr_places.specs.Places.{ArePlacesOf, entry_of}
use Rattle.olr_places.specs.Looking.{key_behind}
use Rattle.olr_places.specs.declared.limits.PlaceLimits.{PlaceLimits}
use Rattle.olr_places.specs.declared.opener.Opener.{Opener}
use Rattle.olr_places.specs.declared.places.Places.{Places}
use Rattle.olr_likely.specs.Answer.{IsAnswerOf}
use Rattle.olr_likely.specs.Chances.{AreChancesIf}
use Rattle.olr_likely.specs.Finding.{AreLikelyPlaces, AreWidest}
use Rattle.olr_likely.specs.Order.{AreShown, is_shown, least_cost}
use Rattle.olr_likely.specs.Ranked.{AreLookedAt, AreRanked}
use Rattle.olr_likely.specs.declared.answer.LikelyPlaces.{LikelyPlaces}
use Rattle.olr_likely.specs.declared.asked.AskedPlaces.{AskedPlaces}
use Rattle.olr_likely.specs.declared.chances.Chances.{Chances}
use Rattle.olr_likely.specs.declared.ranked.RankedPlace.{RankedPlace}
use Rattle.olr_likely.proofs.Turns.{all_before}
use Rattle.olr_likely.proofs.Widest.{all_listed, keys_low}

-- what holds of all openers holds of those of the places that are shown
pub all_shown : (P : Opener → Type 0) (road : RoadMap) (places shown : List RankedPlace)
    (limits : PlaceLimits) (openers : List Opener) → AreRanked road openers places
    → AreShown limits places shown → All P openers
    → All (λ (place : RankedPlace). P place.opener) shown
all_shown P road places shown limits openers ranked are all =
    let Q : RankedPlace → Type 0 = λ place. P place.opener in
    let of_all : All Q places = all_before P (λ (place : RankedPlace). place.opener) places
    (rw ranked.openers_are all) in
    rw are.first (All-take Q limits.most _
    (All-filter (is_shown limits.within (least_cost places)) Q are.ordered
    (All-permutation Q places are.ordered are.in_order.same of_all)))

module _ (road : RoadMap) (layers : LayersValue) (asked : AskedPlaces) (widest : PlaceLimits)
    (are_widest : AreWidest asked.limits widest) (in_range : KeysAreInRange)
    (table : IsTable layers.penalties) (answers : List KeyValue) (looked : Looked)
    (are_answers : AreAnswers layers.penalties answers)
    (is_looked : IsLooked widest road layers answers looked) (found : Places)
    (are : ArePlacesOf widest looked found) (places : List RankedPlace)
    (ranked : AreRanked road found.openers.items places) where
  open_all : map entry_of found.openers.items ≡ openers_of widest looked.matchings
  open_all = are.openers ∙ all_listed widest are_widest.within looked.matchings
      (keys_low answers is_looked.left is_looked.seen looked.matchings is_looked.looked_at.0
      is_looked.keys is_looked.looked_at.1 layers.penalties are_answers in_range table)

  looked_at : AreLookedAt road widest looked.matchings places
  looked_at = record {
    openers_are = ap (map entry_of) ranked.openers_are ∙ open_all;
    counted = rw ranked.openers_are are.counted;
    ranked = record { openers_are = refl; ranks = ranked.ranks; costs = ranked.costs };
  }

  pub are_likely : (chances : Option Chances) (likely : LikelyPlaces)
      → AreChancesIf asked.confidence asked.limits.apart road layers places chances
      → IsAnswerOf asked.limits found.looked found.ending (key_behind found.ending found.last)
      chances places likely → AreLikelyPlaces asked road layers likely
  are_likely chances likely are_chances is = record {
    widest = widest;
    answers = answers;
    looked = looked;
    places = places;
    chances = chances;
    are_widest = are_widest;
    are_answers = are_answers;
    is_looked = is_looked;
    are_looked_at = looked_at;
    are_chances = are_chances;
    is_answer = rw (← are.count, ← are.ending, ← are.last) is;
  }
