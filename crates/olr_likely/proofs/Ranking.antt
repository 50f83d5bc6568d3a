-- Places by their openers, with one more.
use Rattle.std.proofs.Common.{◌≡◌, ◌+◌, List, [], ◌∷◌, ◌++◌, length, ap, ◌∙◌}
use Rattle.std.proofs.lemmas.List.{map-append}
use Rattle.std.proofs.lemmas.List.Elements.{All-push}
use Rattle.olr_matching.proofs.Lists.{push_each}
use Rattle.olr_road.specs.RoadMap.{RoadMap}
use Rattle.olr_places.specs.declared.opener.Opener.{Opener}
use Rattle.olr_likely.specs.Ranked.{AreRanked, HasLikelyCost}
use Rattle.olr_likely.specs.declared.ranked.RankedPlace.{RankedPlace}

pub one_more : (road : RoadMap) (openers : List Opener) (places : List RankedPlace)
    (place : RankedPlace) → AreRanked road openers places → place.rank ≡ length places + 1
    → HasLikelyCost road place
    → AreRanked road (openers ++ place.opener ∷ []) (places ++ place ∷ [])
one_more road openers places place are rank cost = record {
  openers_are = map-append (λ (one : RankedPlace). one.opener) places (place ∷ [])
      ∙ ap (λ (l : List Opener). l ++ place.opener ∷ []) are.openers_are;
  ranks = push_each (λ k (one : RankedPlace). one.rank ≡ k + 1) places place are.ranks rank;
  costs = All-push (HasLikelyCost road) places place are.costs cost;
}
