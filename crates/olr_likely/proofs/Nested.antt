-- How deep what is written of places nests.
use Rattle.std.proofs.Common.{◌≤◌, ◌-◌, ℕ, Option, None, Some, arith}
use Rattle.std.specs.Global.{Vec}
use Rattle.serde_json.specs.Data.{boolean}
use Rattle.olr_report.proofs.JsonShape.{entry_nests, maybe_nests, part_nests, some_nests}
use Rattle.olr_text.proofs.Nesting.{items_nest, option_nests}
use Rattle.olr_text.specs.JsonValues.{NestsWithin, array_of, or_null, whole, whole_or_null}
use Rattle.olr_confidence.specs.Json.{name_value, range_object, reason_object}
use Rattle.olr_confidence.specs.declared.confidence.MapRange.{MapRange}
use Rattle.olr_confidence.specs.declared.reason.Reason.{Reason}
use Rattle.olr_detail.proofs.Written.{matching_nests}
use Rattle.olr_detail.specs.declared.matching_detail.MatchingDetail.{MatchingDetail}
use Rattle.olr_places.specs.Places.{entry_of}
use Rattle.olr_places.specs.declared.opener.Opener.{Opener}
use Rattle.olr_report.specs.Location.{located_value}
use Rattle.olr_report.specs.ShownMap.{MapShown}
use Rattle.olr_report.specs.declared.route_part.RoutePart.{RoutePart}
use Rattle.olr_likely.specs.Json.{opener_object, place_object, shown_object}
use Rattle.olr_likely.specs.Values.{ToldPlaceValue}
use Rattle.olr_likely.specs.declared.told.ToldPlaces.{ToldPlaces}
use Rattle.olr_confidence.specs.declared.asked.AskedName.{AskedName}
use Rattle.olr_likely.specs.declared.showing.RankAndCost.{RankAndCost}
use Rattle.olr_likely.specs.declared.showing.ShownPlace.{ShownPlace}
use Rattle.olr_likely.specs.declared.showing.ShownPlaces.{ShownPlaces}

reason_nests : (most : ℕ) → 1 ≤ most → (reason : Reason) → NestsWithin most (reason_object reason)
reason_nests most enough reason =
    (omega arith, (option_nests whole (most - 1) (λ at. tt) reason.at, (tt, (tt, tt))))

range_nests : (most : ℕ) → 1 ≤ most → (range : MapRange) → NestsWithin most (range_object range)
range_nests most enough range = (omega arith, (tt, (tt, (tt, tt))))

module _ (on : MapShown) where
  opener_nests : (most : ℕ) → 4 ≤ most → (opener : Opener) (detail : Option MatchingDetail)
      → NestsWithin most (opener_object on opener detail)
  opener_nests most enough opener None = entry_nests on most enough (entry_of opener)
  opener_nests most enough opener (Some detail) = matching_nests on most enough None opener.key
      opener.matched opener.route.items (located_value opener.covered.located) detail

  pub place_nests : (most : ℕ) → 5 ≤ most → (part : Option RoutePart) (place : ShownPlace)
      → NestsWithin most (place_object on part place)
  place_nests most enough part place =
      let cost = some_nests (most - 1) (λ (likely : RankAndCost). whole likely.cost) (λ likely. tt)
      place.likely in
      let rank = some_nests (most - 1) (λ (likely : RankAndCost). whole likely.rank) (λ likely. tt)
      place.likely in
      let probability = some_nests (most - 1) (or_null (λ (said : ToldPlaceValue).
      whole said.probability)) (option_nests (λ (said : ToldPlaceValue). whole said.probability)
      (most - 1) (λ said. tt)) place.told in
      let reasons = some_nests (most - 1) (or_null (λ (said : ToldPlaceValue).
      array_of reason_object said.reasons)) (option_nests (λ (said : ToldPlaceValue).
      array_of reason_object said.reasons) (most - 1) (λ said. (
        omega arith,
        items_nest reason_object
            (most - 1 - 1) (reason_nests (most - 1 - 1) (omega arith)) said.reasons,
      ))) place.told in
      let matching = opener_nests (most - 1) (omega arith) place.opener place.detail in (
        omega arith,
        maybe_nests (most - 1) _ _ _ cost (
          tt,
          (
            matching,
            (
              tt,
              maybe_nests (most - 1) _ _ _ (part_nests (most - 1) part)
                  (maybe_nests (most - 1) _ _ _ probability
                  (maybe_nests (most - 1) _ _ _ rank (maybe_nests (most - 1) _ _ _ reasons tt))),
            ),
          ),
        ),
      )

  pub shown_nests : (most : ℕ) → 7 ≤ most → (shown : ShownPlaces)
      → NestsWithin most (shown_object on shown)
  shown_nests most enough shown =
      let places = items_nest (place_object on None) (most - 1 - 1)
      (place_nests (most - 1 - 1) (omega arith) None) shown.places.items in
      let cut = some_nests (most - 1) boolean (λ cut. tt) shown.cut in
      let margin = option_nests whole (most - 1) (λ margin. tt) shown.margin in
      let next = option_nests _ (most - 1) (λ last. tt) shown.next in
      let differs = some_nests (most - 1) (λ (names : Vec AskedName). array_of name_value names.items)
      (λ names. (omega arith, items_nest name_value (most - 1 - 1) (λ name. tt) names.items))
      shown.differs in
      let map_differs = some_nests (most - 1) (λ (told : ToldPlaces).
      or_null range_object told.map_differs) (λ told. option_nests range_object (most - 1)
      (range_nests (most - 1) (omega arith)) told.map_differs) shown.told in
      let none = some_nests (most - 1) (λ (told : ToldPlaces). whole_or_null told.none)
      (λ told. option_nests whole (most - 1) (λ none. tt) told.none) shown.told in (
        omega arith,
        maybe_nests (most - 1) _ _ _ cut (maybe_nests (most - 1) _ _ _ differs (
          tt,
          maybe_nests (most - 1) _ _ _ map_differs (
            margin,
            (next, maybe_nests (most - 1) _ _ _ none ((omega arith, places), (tt, tt))),
          ),
        )),
      )
