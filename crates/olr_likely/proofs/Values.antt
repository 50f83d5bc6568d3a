-- Places by what text and JSON show of them, which is one value.
use Rattle.std.proofs.Common.{◌≡◌, ℕ, ◌+◌, List, [], ◌∷◌, ◌++◌, map, Option, None, Some, option_map, refl, sym, ap, ◌∙◌}
use Rattle.std.specs.Global.{Vec}
use Rattle.olr_binary.specs.declared.reference.Reference.{Reference}
use Rattle.olr_road.specs.RoadMap.{RoadMap}
use Rattle.olr_text.specs.Texts.{texts_from}
use Rattle.olr_detail.specs.Drawing.{part_named}
use Rattle.olr_detail.specs.declared.cost.LikelyCost.{LikelyCost}
use Rattle.olr_detail.specs.declared.matching_detail.MatchingDetail.{MatchingDetail}
use Rattle.olr_report.specs.Entries.{Entry}
use Rattle.olr_report.specs.Json.{entry_object}
use Rattle.olr_report.specs.ShownMap.{MapShown}
use Rattle.olr_report.specs.declared.route_part.RoutePart.{RoutePart}
use Rattle.olr_places.specs.Places.{entry_of}
use Rattle.olr_places.specs.declared.opener.Opener.{Opener}
use Rattle.olr_likely.specs.GeoJson.{place_feature, shown_collection}
use Rattle.olr_likely.specs.Json.{opener_object, place_object, shown_object}
use Rattle.olr_likely.specs.Text.{place_rows, shown_text}
use Rattle.olr_confidence.specs.declared.asked.AskedName.{AskedName}
use Rattle.olr_confidence.specs.declared.confidence.Confidence.{Confidence}
use Rattle.olr_text.specs.JsonValues.{array_of}
use Rattle.olr_confidence.specs.Json.{name_value}
use Rattle.olr_likely.specs.Extending.{names_in}
use Rattle.olr_likely.specs.Values.{ToldPlaceValue}
use Rattle.olr_likely.specs.declared.chances.Chances.{Chances}
use Rattle.olr_likely.specs.declared.chances.KnownChances.{KnownChances}
use Rattle.olr_likely.specs.declared.ranked.RankedPlace.{RankedPlace}
use Rattle.olr_likely.specs.declared.showing.RankAndCost.{RankAndCost}
use Rattle.olr_likely.specs.declared.showing.ShownPlace.{ShownPlace}
use Rattle.olr_likely.specs.declared.showing.ShownPlaces.{ShownPlaces}

-- ---- lists

pub same_parts : {X : Type 0} (x y : X) (xs ys : List X) → x ∷ xs ≡ y ∷ ys → (x ≡ y) × (xs ≡ ys)
same_parts x y xs ys same = (cc, cc)

-- what is made of what items are mapped to is the same
pub same_made : {X Y Z : Type 0} (g : X → Y) (f : X → Z) (h : Y → Z)
    → ((x : X) → f x ≡ h (g x)) → (xs ys : List X) → map g xs ≡ map g ys → map f xs ≡ map f ys
same_made g f h each [] [] same = refl
same_made g f h each [] (y ∷ ys) same = absurd cc
same_made g f h each (x ∷ xs) [] same = absurd cc
same_made g f h each (x ∷ xs) (y ∷ ys) same =
    let parts = same_parts (g x) (g y) (map g xs) (map g ys) same in
    let first = each x ∙ ap h parts.0 ∙ sym (each y) in
    let rest = same_made g f h each xs ys parts.1 in
    λ k. first k ∷ rest k

-- ---- values

-- of an opener
pub record OpenerValue : Type 0 where
  pub entry : Entry
  pub gap : ℕ
  pub members : ℕ

abbrev pub opener_value : Opener → OpenerValue
opener_value opener =
    record { entry = entry_of opener; gap = opener.gap; members = opener.members }

-- of a place that was looked at
pub record RankedValue : Type 0 where
  pub opener : OpenerValue
  pub rank : ℕ
  pub likely : LikelyCost

abbrev pub ranked_value : RankedPlace → RankedValue
ranked_value place =
    record { opener = opener_value place.opener; rank = place.rank; likely = place.likely }

-- of a place that is shown
pub record ShownValue : Type 0 where
  pub opener : OpenerValue
  pub likely : Option RankAndCost
  pub detail : Option MatchingDetail
  pub told : Option (Option ToldPlaceValue)

abbrev pub shown_value : ShownPlace → ShownValue
shown_value place = record {
  opener = opener_value place.opener;
  likely = place.likely;
  detail = place.detail;
  told = place.told;
}

-- of what a confidence says of all places
pub record KnownValue : Type 0 where
  pub places : List ℕ
  pub none : ℕ
  pub least : ℕ

abbrev pub known_value : KnownChances → KnownValue
known_value known = record {
  places = known.probabilities.places.items;
  none = known.probabilities.none;
  least = known.least;
}

pub record ChancesValue : Type 0 where
  pub confidence : Confidence
  pub differs : List AskedName
  pub known : Option KnownValue

abbrev pub chances_value : Chances → ChancesValue
chances_value chances = record {
  confidence = chances.confidence;
  differs = chances.differs.items;
  known = option_map known_value chances.known;
}

-- places as they are shown have the same values
pub record AreAlike (one other : ShownPlaces) : Type 0 where
  pub places : map shown_value one.places.items ≡ map shown_value other.places.items
  pub looked : one.looked ≡ other.looked
  pub margin : one.margin ≡ other.margin
  pub next : one.next ≡ other.next
  pub cut : one.cut ≡ other.cut
  pub verdict : one.verdict ≡ other.verdict
  pub told : one.told ≡ other.told
  pub differs : names_in one.differs ≡ names_in other.differs

-- ---- what is shown

module _ (road : RoadMap) where
  same_rows : (number : ℕ) (one other : ShownPlace) → shown_value one ≡ shown_value other
      → place_rows road number one ≡ place_rows road number other
  same_rows number one other same = rw (
    ap (λ (value : ShownValue). value.opener.entry.key) same,
    ap (λ (value : ShownValue). value.opener.gap) same,
    ap (λ (value : ShownValue). value.opener.members) same,
    ap (λ (value : ShownValue). value.likely) same,
    ap (λ (value : ShownValue). value.detail) same,
    ap (λ (value : ShownValue). value.opener.entry.located) same,
  ) refl

  same_texts : (number : ℕ) (ones others : List ShownPlace)
      → map shown_value ones ≡ map shown_value others
      → texts_from (place_rows road) number ones ≡ texts_from (place_rows road) number others
  same_texts number [] [] same = refl
  same_texts number [] (other ∷ others) same = absurd cc
  same_texts number (one ∷ ones) [] same = absurd cc
  same_texts number (one ∷ ones) (other ∷ others) same =
      let parts = same_parts (shown_value one) (shown_value other) (map shown_value ones)
      (map shown_value others) same in
      let first = same_rows number one other parts.0 in
      let rest = same_texts (number + 1) ones others parts.1 in
      λ k. first k ++ rest k

  pub same_text : (one other : ShownPlaces) → AreAlike one other
      → shown_text road one ≡ shown_text road other
  same_text one other are = rw (
    same_texts 1 one.places.items other.places.items are.places,
    are.looked,
    are.margin,
    are.verdict,
    are.next,
  ) refl

-- the same names are written alike
same_differs : (one other : Option (Vec AskedName)) → names_in one ≡ names_in other
    → option_map (λ (names : Vec AskedName). array_of name_value names.items) one
    ≡ option_map (λ (names : Vec AskedName). array_of name_value names.items) other
same_differs None None same = refl
same_differs None (Some other) same = absurd cc
same_differs (Some one) None same = absurd cc
same_differs (Some one) (Some other) same = ap Some (ap (array_of name_value) (some_same same))
  where
    some_same : {x y : List AskedName} → Some x ≡ Some y → x ≡ y
    some_same is = cc

-- what is made of each place is the same
same_each : {A : Type 0} (made : ShownPlace → A)
    → ((one other : ShownPlace) → shown_value one ≡ shown_value other → made one ≡ made other)
    → (ones others : List ShownPlace) → map shown_value ones ≡ map shown_value others
    → map made ones ≡ map made others
same_each made each [] [] same = refl
same_each made each [] (other ∷ others) same = absurd cc
same_each made each (one ∷ ones) [] same = absurd cc
same_each made each (one ∷ ones) (other ∷ others) same =
    let parts = same_parts (shown_value one) (shown_value other) (map shown_value ones)
    (map shown_value others) same in
    let first = each one other parts.0 in
    let rest = same_each made each ones others parts.1 in
    λ k. first k ∷ rest k

module _ (on : MapShown) where
  same_opener : (one other : Opener) (detail : Option MatchingDetail)
      → opener_value one ≡ opener_value other
      → opener_object on one detail ≡ opener_object on other detail
  same_opener one other None same =
      ap (λ (value : OpenerValue). entry_object on value.entry) same
  same_opener one other (Some detail) same = rw (
    ap (λ (value : OpenerValue). value.entry.key) same,
    ap (λ (value : OpenerValue). value.entry.matched) same,
    ap (λ (value : OpenerValue). value.entry.route) same,
    ap (λ (value : OpenerValue). value.entry.located) same,
  ) refl

  pub same_object : (part : Option RoutePart) (one other : ShownPlace)
      → shown_value one ≡ shown_value other
      → place_object on part one ≡ place_object on part other
  same_object part one other same = rw (
    same_opener one.opener other.opener one.detail
        (ap (λ (value : ShownValue). value.opener) same),
    ap (λ (value : ShownValue). value.detail) same,
    ap (λ (value : ShownValue). value.likely) same,
    ap (λ (value : ShownValue). value.opener.gap) same,
    ap (λ (value : ShownValue). value.opener.members) same,
    ap (λ (value : ShownValue). value.told) same,
  ) refl

  pub same_json : (one other : ShownPlaces) → AreAlike one other
      → shown_object on one ≡ shown_object on other
  same_json one other are = rw (
    same_each (place_object on None) (same_object None) one.places.items other.places.items
        are.places,
    are.looked,
    are.margin,
    are.verdict,
    are.next,
    are.cut,
    are.told,
    same_differs one.differs other.differs are.differs,
  ) refl

  module _ (reference : Reference) (part : RoutePart) where
    same_feature : (one other : ShownPlace) → shown_value one ≡ shown_value other
        → place_feature on reference part one ≡ place_feature on reference part other
    same_feature one other same = rw (
      same_object (part_named reference part) one other same,
      ap (λ (value : ShownValue). value.opener.entry.matched) same,
      ap (λ (value : ShownValue). value.opener.entry.route) same,
      ap (λ (value : ShownValue). value.opener.entry.located) same,
    ) refl

    pub same_geojson : (one other : ShownPlaces) → AreAlike one other
        → shown_collection on reference part one ≡ shown_collection on reference part other
    same_geojson one other are = rw (
      same_each (place_feature on reference part) same_feature one.places.items
          other.places.items are.places,
      are.looked,
      are.margin,
      are.verdict,
      are.next,
      are.cut,
      are.told,
      same_differs one.differs other.differs are.differs,
    ) refl
