-- What is written of the places that are shown is their object.
use Rattle.arrayvec.specs.ArrayString.{ArrayString}
use Rattle.std.proofs.Common.{◌≡◌, List, ℕ, Option, None, option_map, refl}
use Rattle.std.specs.Borrow.{Bor}
use Rattle.std.specs.Prelude.{codes}
use Rattle.serde_json.specs.Data.{Data, member, no_members, object, string}
use Rattle.olr_text.specs.JsonValues.{array_of, maybe_member, or_null, whole, whole_or_null}
use Rattle.olr_keys.specs.Cursor.{cursor_text}
use Rattle.olr_keys.specs.Key.{KeyValue}
use Rattle.olr_places.specs.Verdict.{verdict_word}
use Rattle.olr_report.proofs.ShownPage.{same_next}
use Rattle.olr_report.specs.ShownMap.{MapShown}
use Rattle.olr_report.specs.RoutePart.{part_drawn}
use Rattle.olr_report.specs.declared.route_part.RoutePart.{RoutePart}
use Rattle.olr_likely.specs.GeoJson.{places_members}
use Rattle.olr_likely.specs.Json.{cost_value, map_differs_value, none_value, opener_object, place_object, probability_value, rank_value, reasons_value, shown_members}
use Rattle.olr_likely.specs.declared.showing.ShownPlace.{ShownPlace}
use Rattle.olr_likely.specs.declared.showing.ShownPlaces.{ShownPlaces}

pub same_place : (on : MapShown) (part : Option RoutePart) (place : ShownPlace)
    (cost word probability rank reasons : Option Data) → cost ≡ cost_value place
    → word ≡ part_drawn part → probability ≡ probability_value place → rank ≡ rank_value place
    → reasons ≡ reasons_value place
    → object (
    maybe_member (codes "cost") cost (
    member (codes "gap") (whole place.opener.gap) (
    member (codes "matching") (opener_object on place.opener place.detail) (
    member (codes "members") (whole place.opener.members) (
    maybe_member (codes "part") word (
    maybe_member (codes "probability") probability (
    maybe_member (codes "rank") rank (
    maybe_member (codes "reasons") reasons no_members))))))))
    ≡ place_object on part place
same_place on part place cost word probability rank reasons cost_is word_is probability_is rank_is
    reasons_are k = object (
    maybe_member (codes "cost") (cost_is k) (
    member (codes "gap") (whole place.opener.gap) (
    member (codes "matching") (opener_object on place.opener place.detail) (
    member (codes "members") (whole place.opener.members) (
    maybe_member (codes "part") (word_is k) (
    maybe_member (codes "probability") (probability_is k) (
    maybe_member (codes "rank") (rank_is k) (
    maybe_member (codes "reasons") (reasons_are k) no_members))))))))

module _ (shown : ShownPlaces) (next : Option ArrayString)
    (found : Option (Bor KeyValue)) (word : List ℕ)
    (same : option_map (λ text. text.bytes) next
    ≡ option_map (λ (key : Bor KeyValue). cursor_text key.now None) found)
    (next_is : option_map (λ (key : Bor KeyValue). key.now) found ≡ shown.next)
    (word_is : word ≡ verdict_word shown.verdict) (map_differs none : Option Data)
    (map_differs_is : map_differs ≡ map_differs_value shown) (none_is : none ≡ none_value shown) where
  pub same_members : (on : MapShown) →
      member (codes "looked") (whole shown.looked) (
      maybe_member (codes "map_differs") map_differs (
      member (codes "margin") (whole_or_null shown.margin) (
      member (codes "next") (or_null (λ text. string text.bytes) next) (
      maybe_member (codes "none_of_these") none (
      member (codes "places") (array_of (place_object on None) shown.places.items) (
      member (codes "verdict") (string word) no_members))))))
      ≡ shown_members on shown
  same_members on = rw (
    word_is,
    same_next next found shown.next None same next_is,
    map_differs_is,
    none_is,
  ) refl

  pub same_behind : object (
      member (codes "looked") (whole shown.looked) (
      maybe_member (codes "map_differs") map_differs (
      member (codes "margin") (whole_or_null shown.margin) (
      member (codes "next") (or_null (λ text. string text.bytes) next) (
      maybe_member (codes "none_of_these") none (
      member (codes "type") (string (codes "FeatureCollection")) (
      member (codes "verdict") (string word) no_members)))))))
      ≡ object (places_members shown)
  same_behind = rw (
    word_is,
    same_next next found shown.next None same next_is,
    map_differs_is,
    none_is,
  ) refl
