-- Places as they are asked for show one list of values.
use Rattle.std.proofs.Common.{◌≡◌, ℕ, suc, ◌+◌, Bool, true, false, List, [], ◌∷◌, length, map, All, Option, None, Some, option_map, if◌then◌else◌, refl, sym, subst, ap, ◌∙◌, arith}
use Rattle.std.proofs.Props.{props}
use Rattle.std.proofs.lemmas.Bool.Decides.{same_from_decides}
use Rattle.std.proofs.lemmas.List.Elements.{All-head, All-tail}
use Rattle.std.proofs.lemmas.Simd.{map-map}
use Rattle.std.specs.Prelude.{option_and_then, slice_get}
use Rattle.olr_keys.specs.Key.{KeyValue}
use Rattle.olr_road.specs.RoadMap.{IsSoundMap, RoadMap}
use Rattle.olr_matching.specs.Layers.{LayersValue}
use Rattle.olr_matching.specs.declared.matched.Matched.{Matched}
use Rattle.olr_confidence.specs.declared.asked.AskedName.{AskedName}
use Rattle.olr_confidence.specs.declared.confidence.Confidence.{Confidence}
use Rattle.olr_confidence.specs.declared.confidence.Weights.{Weights}
use Rattle.olr_confidence.specs.declared.terms.Terms.{Terms}
use Rattle.olr_detail.specs.Cost.{IsLikelyCost, cost_of}
use Rattle.olr_detail.specs.declared.matching_detail.MatchingDetail.{MatchingDetail}
use Rattle.olr_detail.specs.declared.cost.LikelyCost.{LikelyCost}
use Rattle.olr_report.specs.Common.{Piece}
use Rattle.olr_report.specs.Entries.{Entry}
use Rattle.olr_places.specs.Limits.{IsInRange}
use Rattle.olr_places.specs.Looking.{IsLooked, Looked, gap_of}
use Rattle.olr_places.specs.Places.{AreCounted, ArePlacesOf, entry_of}
use Rattle.olr_places.specs.Looking.{next_of}
use Rattle.olr_places.specs.Verdict.{verdict_by}
use Rattle.olr_places.specs.declared.limits.PlaceLimit.TheVariants.{Apart, Look, Most, Within}
use Rattle.olr_places.specs.declared.limits.PlaceLimits.{PlaceLimits}
use Rattle.olr_places.specs.declared.opener.Opener.{Opener}
use Rattle.olr_likely.specs.Answer.{ending_within, is_cut}
use Rattle.olr_likely.specs.Asking.{AreAskedByCost, AreAskedByTotal, AreAskedIn}
use Rattle.olr_likely.specs.Chances.{AreChances, AreChancesIf, AreTermsOfPlaces, IsKnown, are_known}
use Rattle.olr_likely.specs.Extending.{AreExtended, AreExtendedPlaces, IsExtended, IsSaid, IsSaidIf, IsTold, differs_of, names_in, probability_at, told_of}
use Rattle.olr_likely.specs.Finding.{AreWidest}
use Rattle.olr_likely.specs.OneAnswer.{LawsBelow, OneGeoJson, OneJson, OneLooking, OneText}
use Rattle.olr_likely.specs.Ranked.{AreLookedAt, HasLikelyCost, openers_in}
use Rattle.olr_likely.specs.Showing.{shown_by_cost, shown_by_total}
use Rattle.olr_likely.specs.Values.{ToldPlaceValue}
use Rattle.olr_likely.specs.declared.told.ToldPlaces.{ToldPlaces}
use Rattle.olr_likely.specs.declared.asked.AskedPlaces.{AskedPlaces}
use Rattle.olr_likely.specs.declared.asked.PlaceOrder.{PlaceOrder}
use Rattle.olr_likely.specs.declared.asked.PlaceOrder.TheVariants.{Likely, Total}
use Rattle.olr_likely.specs.declared.chances.Chances.{Chances}
use Rattle.olr_likely.specs.declared.chances.KnownChances.{KnownChances}
use Rattle.olr_likely.specs.declared.ranked.RankedPlace.{RankedPlace}
use Rattle.olr_likely.specs.declared.showing.ShownPlace.{ShownPlace}
use Rattle.olr_likely.specs.declared.showing.ShownPlaces.{ShownPlaces}
use Rattle.olr_likely.proofs.OneOrder.{one_cut, one_ending, one_least, one_listed, one_margin, shown_once}
use Rattle.olr_likely.proofs.ByTotal.{next_is, verdict_is}
use Rattle.olr_likely.proofs.Values.{AreAlike, ChancesValue, KnownValue, OpenerValue, RankedValue, ShownValue, chances_value, known_value, opener_value, ranked_value, same_geojson, same_json, same_made, same_parts, same_text, shown_value}

-- ---- openers

-- openers with their gaps and members have one list of values
openers_once : (limits : PlaceLimits) (matchings : List Entry) (index : ℕ)
    (ones others : List Opener) → map entry_of ones ≡ map entry_of others
    → AreCounted limits matchings index ones → AreCounted limits matchings index others
    → map opener_value ones ≡ map opener_value others
openers_once limits matchings index [] [] same are their = refl
openers_once limits matchings index [] (other ∷ others) same are their = absurd cc
openers_once limits matchings index (one ∷ ones) [] same are their = absurd cc
openers_once limits matchings index (one ∷ ones) (other ∷ others) same are their =
    let parts = same_parts (entry_of one) (entry_of other) (map entry_of ones)
    (map entry_of others) same in
    let gap = are.0.gap ∙ ap (λ (entry : Entry). gap_of matchings entry.key) parts.0
    ∙ sym their.0.gap in
    let members = are.0.members ∙ sym their.0.members in
    let first : opener_value one ≡ opener_value other =
    λ k. record { entry = parts.0 k; gap = gap k; members = members k } in
    let rest = openers_once limits matchings (index + 1) ones others parts.1 are.1 their.1 in
    λ k. first k ∷ rest k

-- ---- ranks and costs

cost_once : (road : RoadMap) (matched : Matched) (route : List Piece) (one other : LikelyCost)
    → IsLikelyCost road matched route one → IsLikelyCost road matched route other → one ≡ other
cost_once road matched route one other is its =
    let turns = same_from_decides one.turns_back other.turns_back is.turns its.turns in
    let cost = is.cost_is ∙ (ap (cost_of road matched) turns ∙ sym its.cost_is) in
    λ k. record { turns_back = turns k; cost = cost k }

-- ranks go on from so many
abbrev AreNumberedFrom : ℕ → List RankedPlace → Type 0
AreNumberedFrom start places = (index : ℕ) (place : RankedPlace)
    → slice_get places index ≡ Some place → place.rank ≡ index + start

numbered_rest : (start : ℕ) (place : RankedPlace) (places : List RankedPlace)
    → AreNumberedFrom start (place ∷ places) → AreNumberedFrom (start + 1) places
numbered_rest start place places are index one at =
    let rank = are (suc index) one at in omega (arith, rank)

module _ (road : RoadMap) where
  ranked_once : (start : ℕ) (ones others : List RankedPlace)
      → map opener_value (openers_in ones) ≡ map opener_value (openers_in others)
      → AreNumberedFrom start ones → AreNumberedFrom start others
      → All (HasLikelyCost road) ones → All (HasLikelyCost road) others
      → map ranked_value ones ≡ map ranked_value others
  ranked_once start [] [] same are their costs its = refl
  ranked_once start [] (other ∷ others) same are their costs its = absurd cc
  ranked_once start (one ∷ ones) [] same are their costs its = absurd cc
  ranked_once start (one ∷ ones) (other ∷ others) same are their costs its =
      let parts = same_parts (opener_value one.opener) (opener_value other.opener)
      (map opener_value (openers_in ones)) (map opener_value (openers_in others)) same in
      let rank = are 0 one refl ∙ sym (their 0 other refl) in
      let cost : HasLikelyCost road one = All-head (HasLikelyCost road) one ones costs in
      let its_cost : HasLikelyCost road other = All-head (HasLikelyCost road) other others its in
      let matched = ap (λ (value : OpenerValue). value.entry.matched) parts.0 in
      let route = ap (λ (value : OpenerValue). value.entry.route) parts.0 in
      let likely = cost_once road other.opener.matched other.opener.route.items one.likely
      other.likely
      (subst (λ (pieces : List Piece). IsLikelyCost road other.opener.matched pieces one.likely)
      route (subst (λ (m : Matched). IsLikelyCost road m one.opener.route.items one.likely) matched
      cost)) its_cost in
      let first : ranked_value one ≡ ranked_value other =
      λ k. record { opener = parts.0 k; rank = rank k; likely = likely k } in
      let rest = ranked_once (start + 1) ones others parts.1 (numbered_rest start one ones are)
      (numbered_rest start other others their)
      (All-tail (HasLikelyCost road) one ones costs)
      (All-tail (HasLikelyCost road) other others its) in
      λ k. first k ∷ rest k

  looked_at_once : (limits : PlaceLimits) (matchings : List Entry) (ones others : List RankedPlace)
      → AreLookedAt road limits matchings ones → AreLookedAt road limits matchings others
      → map ranked_value ones ≡ map ranked_value others
  looked_at_once limits matchings ones others are their =
      ranked_once 1 ones others
      (openers_once limits matchings 0 (openers_in ones) (openers_in others)
      (are.openers_are ∙ sym their.openers_are) are.counted their.counted)
      are.ranked.ranks their.ranked.ranks are.ranked.costs their.ranked.costs

-- ---- the widest limits

-- what is made of equal data is the same, whatever the proofs that they are in range
made_same : {A D : Type 0} (P : A → Type 0) → ((x : A) → IsProp (P x))
    → (make : (x : A) → P x → D) → (x y : A) (p : P x) (q : P y) → x ≡ y → make x p ≡ make y q
made_same P one make x y p q same =
    subst (λ z. (q : P z) → make x p ≡ make z q) same (λ q. ap (make x) (one x p q)) q

widest_once : (limits one other : PlaceLimits) → AreWidest limits one → AreWidest limits other
    → one ≡ other
widest_once limits one other is its =
    let apart = is.apart ∙ sym its.apart in
    let within = is.within ∙ sym its.within in
    let look = is.look ∙ sym its.look in
    let most = is.most ∙ sym its.most in
    made_same {A = ℕ × ℕ × ℕ × ℕ} (λ n. IsInRange Apart n.0 × IsInRange Within n.1
    × IsInRange Look n.2 × IsInRange Most n.3) (λ n. hlevel props) (λ n h. record {
      apart = n.0;
      within = n.1;
      look = n.2;
      most = n.3;
      apart_in_range = h.0;
      within_in_range = h.1;
      look_in_range = h.2;
      most_in_range = h.3;
    }) (one.apart, one.within, one.look, one.most) (other.apart, other.within, other.look, other.most)
    (one.apart_in_range, one.within_in_range, one.look_in_range, one.most_in_range)
    (other.apart_in_range, other.within_in_range, other.look_in_range, other.most_in_range)
    (λ k. (apart k, within k, look k, most k))

-- ---- as they are shown

abbrev by_opener : OpenerValue → ShownValue
by_opener value = record { opener = value; likely = None; detail = None; told = None }

values_by_total : (ones others : List Opener) (shown reshown : List ShownPlace)
    → map opener_value ones ≡ map opener_value others → shown ≡ map shown_by_total ones
    → reshown ≡ map shown_by_total others → map shown_value shown ≡ map shown_value reshown
values_by_total ones others shown reshown same are their =
    ap (map shown_value) are ∙ map-map shown_value shown_by_total ones
    ∙ same_made opener_value (λ one. shown_value (shown_by_total one)) by_opener (λ one. refl) ones
    others same
    ∙ sym (map-map shown_value shown_by_total others) ∙ sym (ap (map shown_value) their)

abbrev by_rank : RankedValue → ShownValue
by_rank value = record {
  opener = value.opener;
  likely = Some (record { rank = value.rank; cost = value.likely.cost });
  detail = None;
  told = None;
}

values_by_cost : (ones others : List RankedPlace) (shown reshown : List ShownPlace)
    → map ranked_value ones ≡ map ranked_value others → shown ≡ map shown_by_cost ones
    → reshown ≡ map shown_by_cost others → map shown_value shown ≡ map shown_value reshown
values_by_cost ones others shown reshown same are their =
    ap (map shown_value) are ∙ map-map shown_value shown_by_cost ones
    ∙ same_made ranked_value (λ one. shown_value (shown_by_cost one)) by_rank (λ one. refl) ones
    others same
    ∙ sym (map-map shown_value shown_by_cost others) ∙ sym (ap (map shown_value) their)

-- ---- how probable places are

module _ (below : LawsBelow) (road : RoadMap) (layers : LayersValue) where
  -- what counts for and against places of the same values is the same
  terms_once : (ones others : List RankedPlace) (terms again : List Terms)
      → map ranked_value ones ≡ map ranked_value others
      → AreTermsOfPlaces road layers ones terms → AreTermsOfPlaces road layers others again
      → terms ≡ again
  terms_once [] [] [] [] same are their = refl
  terms_once [] [] [] (a ∷ again) same are their = absurd their
  terms_once [] [] (t ∷ terms) again same are their = absurd are
  terms_once [] (other ∷ others) terms again same are their = absurd cc
  terms_once (one ∷ ones) [] terms again same are their = absurd cc
  terms_once (one ∷ ones) (other ∷ others) [] again same are their = absurd are
  terms_once (one ∷ ones) (other ∷ others) (t ∷ terms) [] same are their = absurd their
  terms_once (one ∷ ones) (other ∷ others) (t ∷ terms) (a ∷ again) same are their =
      let parts = same_parts (ranked_value one) (ranked_value other) (map ranked_value ones)
      (map ranked_value others) same in
      let matched = ap (λ (value : RankedValue). value.opener.entry.matched) parts.0 in
      let route = ap (λ (value : RankedValue). value.opener.entry.route) parts.0 in
      let detail = below.detail layers.tolerances layers.reference road other.opener.matched
      other.opener.route.items are.0.detail their.0.detail (rw (← matched, ← route) are.0.is_detail)
      their.0.is_detail in
      let first = below.terms their.0.detail (length other.opener.route.items) t a
      (rw (← detail, ← route) are.0.are_terms) their.0.are_terms in
      let rest = terms_once ones others terms again parts.1 are.1 their.1 in
      λ k. first k ∷ rest k

  module _ (confidence : Confidence) (ones others : List RankedPlace)
      (same : map ranked_value ones ≡ map ranked_value others) where
    known_once : (is_known : Bool) (one other : Option KnownChances)
        → IsKnown confidence road layers ones is_known one
        → IsKnown confidence road layers others is_known other
        → option_map known_value one ≡ option_map known_value other
    known_once false one other are their = ap (option_map known_value) (are ∙ sym their)
    known_once true None other are their = absurd are
    known_once true (Some one) None are their = absurd their
    known_once true (Some one) (Some other) are their =
        let terms = terms_once ones others are.terms their.terms same are.are_terms
        their.are_terms in
        let as_probable = below.probability confidence.weights their.terms one.probabilities
        other.probabilities (rw (← terms) are.are_probable) their.are_probable in
        let least = are.least_is ∙ one_least ones others same ∙ sym their.least_is in
        λ k. Some (record {
          places = as_probable.places k;
          none = as_probable.none k;
          least = least k;
        })

    chances_once : (apart : ℕ) (one other : Chances)
        → AreChances confidence apart road layers ones one
        → AreChances confidence apart road layers others other
        → chances_value one ≡ chances_value other
    chances_once apart one other are their =
        let is = are.confidence_is ∙ sym their.confidence_is in
        let differs = are.differs_are ∙ sym their.differs_are in
        let known = known_once (are_known other.differs.items layers.reference) one.known other.known
        (rw (← differs) are.known_is) their.known_is in
        λ k. record { confidence = is k; differs = differs k; known = known k }

  chances_if_once : (confidence : Option Confidence) (apart : ℕ) (ones others : List RankedPlace)
      (one other : Option Chances) → map ranked_value ones ≡ map ranked_value others
      → AreChancesIf confidence apart road layers ones one
      → AreChancesIf confidence apart road layers others other
      → option_map chances_value one ≡ option_map chances_value other
  chances_if_once None apart ones others one other same are their =
      ap (option_map chances_value) (are ∙ sym their)
  chances_if_once (Some confidence) apart ones others None other same are their = absurd are
  chances_if_once (Some confidence) apart ones others (Some one) None same are their = absurd their
  chances_if_once (Some confidence) apart ones others (Some one) (Some other) same are their =
      ap Some (chances_once confidence ones others same apart one other are their)

-- ---- places with more

abbrev told_by : ChancesValue → ToldPlaces
told_by value = record {
  none = option_map (λ (known : KnownValue). known.none) value.known;
  map_differs = option_and_then (λ (known : KnownValue). value.confidence.map_differs) value.known;
}

some_same : {A : Type 0} {x y : A} → Some x ≡ Some y → x ≡ y
some_same same = cc

all_told : (known : Option KnownChances) (confidence : Confidence) (differs : List AskedName)
    → told_by (record {
      confidence = confidence;
      differs = differs;
      known = option_map known_value known;
    }) ≡ record {
      none = option_map (λ (known : KnownChances). known.probabilities.none) known;
      map_differs = option_and_then (λ (known : KnownChances). confidence.map_differs) known;
    }
all_told None confidence differs = refl
all_told (Some known) confidence differs = refl

-- what is told of all places is the same
told_once : (one other : Option Chances)
    → option_map chances_value one ≡ option_map chances_value other
    → option_map told_of one ≡ option_map told_of other
told_once None None same = refl
told_once None (Some other) same = absurd cc
told_once (Some one) None same = absurd cc
told_once (Some one) (Some other) same =
    ap Some (sym (all_told one.known one.confidence one.differs.items)
    ∙ ap told_by (some_same same) ∙ all_told other.known other.confidence other.differs.items)

-- and so are the numbers that differ
differs_once : (one other : Option Chances)
    → option_map chances_value one ≡ option_map chances_value other
    → option_map differs_of one ≡ option_map differs_of other
differs_once None None same = refl
differs_once None (Some other) same = absurd cc
differs_once (Some one) None same = absurd cc
differs_once (Some one) (Some other) same =
    ap Some (ap (λ (value : ChancesValue). value.differs) (some_same same))

module _ (below : LawsBelow) where
  module _ (place again : ShownPlace) (same : shown_value place ≡ shown_value again)
      (detail redetail : MatchingDetail) (detail_is : detail ≡ redetail) where
    said_once : (weights reweights : Weights) (known reknown : KnownChances)
        (said resaid : ToldPlaceValue) → weights ≡ reweights
        → known_value known ≡ known_value reknown → IsSaid weights known place detail said
        → IsSaid reweights reknown again redetail resaid → said ≡ resaid
    said_once weights reweights known reknown said resaid weighs knows is its =
        let route = ap (λ (value : ShownValue). value.opener.entry.route) same in
        let probability = is.probability_is
        ∙ (λ k. probability_at (knows k).places ((same k).likely)) ∙ sym its.probability_is in
        let least = ap (λ (value : KnownValue). value.least) knows in
        let reasons = below.reasons reweights redetail reknown.least
        (length again.opener.route.items) said.reasons resaid.reasons
        (rw (← weighs, ← detail_is, ← least, ← route) is.are_reasons) its.are_reasons in
        λ k. record { probability = probability k; reasons = reasons k }

    said_if_once : (weights reweights : Weights) (known reknown : Option KnownChances)
        (said resaid : Option ToldPlaceValue) → weights ≡ reweights
        → option_map known_value known ≡ option_map known_value reknown
        → IsSaidIf weights known place detail said → IsSaidIf reweights reknown again redetail resaid
        → said ≡ resaid
    said_if_once weights reweights None None said resaid weighs knows is its = is ∙ sym its
    said_if_once weights reweights None (Some reknown) said resaid weighs knows is its = absurd cc
    said_if_once weights reweights (Some known) None said resaid weighs knows is its = absurd cc
    said_if_once weights reweights (Some known) (Some reknown) None resaid weighs knows is its =
        absurd is
    said_if_once weights reweights (Some known) (Some reknown) (Some said) None weighs knows is its =
        absurd its
    said_if_once weights reweights (Some known) (Some reknown) (Some said) (Some resaid) weighs knows
        is its = ap Some (said_once weights reweights known reknown said resaid weighs
        (some_same knows) is its)

    told_place_once : (chances rechances : Option Chances) (told retold : Option (Option ToldPlaceValue))
        → option_map chances_value chances ≡ option_map chances_value rechances
        → IsTold chances place detail told → IsTold rechances again redetail retold → told ≡ retold
    told_place_once None None told retold alike is its = is ∙ sym its
    told_place_once None (Some rechances) told retold alike is its = absurd cc
    told_place_once (Some chances) None told retold alike is its = absurd cc
    told_place_once (Some chances) (Some rechances) None retold alike is its = absurd is
    told_place_once (Some chances) (Some rechances) (Some told) None alike is its = absurd its
    told_place_once (Some chances) (Some rechances) (Some told) (Some retold) alike is its =
        let values = some_same alike in
        ap Some (said_if_once chances.confidence.weights rechances.confidence.weights chances.known
        rechances.known told retold (ap (λ (value : ChancesValue). value.confidence.weights) values)
        (ap (λ (value : ChancesValue). value.known) values) is its)

  module _ (road : RoadMap) (layers : LayersValue) (detailed : Bool)
      (chances rechances : Option Chances)
      (alike : option_map chances_value chances ≡ option_map chances_value rechances) where
    -- places of the same values, with more, have the same values
    extended_once : (ones others extended reextended : List ShownPlace)
        → map shown_value ones ≡ map shown_value others
        → AreExtendedPlaces detailed chances road layers ones extended
        → AreExtendedPlaces detailed rechances road layers others reextended
        → map shown_value extended ≡ map shown_value reextended
    extended_once [] [] [] [] same are their = refl
    extended_once [] [] [] (r ∷ reextended) same are their = absurd their
    extended_once [] [] (e ∷ extended) reextended same are their = absurd are
    extended_once [] (other ∷ others) extended reextended same are their = absurd cc
    extended_once (one ∷ ones) [] extended reextended same are their = absurd cc
    extended_once (one ∷ ones) (other ∷ others) [] reextended same are their = absurd are
    extended_once (one ∷ ones) (other ∷ others) (e ∷ extended) [] same are their = absurd their
    extended_once (one ∷ ones) (other ∷ others) (e ∷ extended) (r ∷ reextended) same are their =
        let parts = same_parts (shown_value one) (shown_value other) (map shown_value ones)
        (map shown_value others) same in
        let matched = ap (λ (value : ShownValue). value.opener.entry.matched) parts.0 in
        let route = ap (λ (value : ShownValue). value.opener.entry.route) parts.0 in
        let detail = below.detail layers.tolerances layers.reference road other.opener.matched
        other.opener.route.items are.0.detail their.0.detail
        (rw (← matched, ← route) are.0.is_detail) their.0.is_detail in
        let told = told_place_once one other parts.0 are.0.detail their.0.detail detail chances
        rechances are.0.told their.0.told alike are.0.is_told their.0.is_told in
        let first = ap shown_value are.0.extended_is
        ∙ (λ k. record {
          opener = (parts.0 k).opener;
          likely = (parts.0 k).likely;
          detail = if detailed then Some (detail k) else None;
          told = told k;
        })
        ∙ sym (ap shown_value their.0.extended_is) in
        let rest = extended_once ones others extended reextended parts.1 are.1 their.1 in
        λ k. first k ∷ rest k

    all_extended_once : (found refound one other : ShownPlaces) → AreAlike found refound
        → AreExtended detailed chances road layers found one
        → AreExtended detailed rechances road layers refound other → AreAlike one other
    all_extended_once found refound one other same is its = record {
      places = extended_once _ _ _ _ same.places is.places its.places;
      looked = ap (λ (shown : ShownPlaces). shown.looked) is.rest_is ∙ same.looked
          ∙ sym (ap (λ (shown : ShownPlaces). shown.looked) its.rest_is);
      margin = ap (λ (shown : ShownPlaces). shown.margin) is.rest_is ∙ same.margin
          ∙ sym (ap (λ (shown : ShownPlaces). shown.margin) its.rest_is);
      next = ap (λ (shown : ShownPlaces). shown.next) is.rest_is ∙ same.next
          ∙ sym (ap (λ (shown : ShownPlaces). shown.next) its.rest_is);
      cut = ap (λ (shown : ShownPlaces). shown.cut) is.rest_is ∙ same.cut
          ∙ sym (ap (λ (shown : ShownPlaces). shown.cut) its.rest_is);
      verdict = ap (λ (shown : ShownPlaces). shown.verdict) is.rest_is ∙ same.verdict
          ∙ sym (ap (λ (shown : ShownPlaces). shown.verdict) its.rest_is);
      told = is.told_is ∙ told_once chances rechances alike ∙ sym its.told_is;
      differs = is.differs_are ∙ differs_once chances rechances alike ∙ sym its.differs_are;
    }

  more_once : (detailed : Bool) (chances rechances : Option Chances) (road : RoadMap)
      (layers : LayersValue) (found refound one other : ShownPlaces)
      → option_map chances_value chances ≡ option_map chances_value rechances
      → AreAlike found refound → IsExtended detailed chances road layers found one
      → IsExtended detailed rechances road layers refound other → AreAlike one other
  more_once false None None road layers found refound one other alike same is its =
      subst (λ (shown : ShownPlaces). AreAlike shown other) (sym is)
      (subst (λ (shown : ShownPlaces). AreAlike found shown) (sym its) same)
  more_once false None (Some rechances) road layers found refound one other alike same is its =
      absurd cc
  more_once false (Some chances) None road layers found refound one other alike same is its =
      absurd cc
  more_once false (Some chances) (Some rechances) road layers found refound one other alike same is
      its = all_extended_once road layers false (Some chances) (Some rechances) alike found refound one
      other same is its
  more_once true chances rechances road layers found refound one other alike same is its =
      all_extended_once road layers true chances rechances alike found refound one other same is its

-- ---- all that is asked

module _ (below : LawsBelow) (looking : OneLooking) (asked : AskedPlaces) (road : RoadMap)
    (layers : LayersValue) (sound : IsSoundMap road) where
  -- what is looked at by the same limits is one thing
  looked_once : (by : PlaceLimits) (answers keys : List KeyValue) (looked relooked : Looked)
      → answers ≡ keys → IsLooked by road layers answers looked
      → IsLooked by road layers keys relooked → looked ≡ relooked
  looked_once by answers keys looked relooked same is its =
      looking by road layers answers looked relooked sound is
      (subst (λ (l : List KeyValue). IsLooked by road layers l relooked) (sym same) its)

  by_total : (one other : ShownPlaces) → AreAskedByTotal asked road layers one
      → AreAskedByTotal asked road layers other → AreAlike one other
  by_total one other is its =
      let answers = below.list layers.penalties is.answers its.answers is.are_answers
      its.are_answers in
      let looked = looked_once asked.limits is.answers its.answers is.looked its.looked answers
      is.is_looked its.is_looked in
      let theirs = subst (λ (l : Looked). ArePlacesOf asked.limits l its.places) (sym looked)
      its.are_places in
      let are = is.are_places in
      let openers = openers_once asked.limits is.looked.matchings 0 is.places.openers.items
      its.places.openers.items (are.openers ∙ sym theirs.openers) are.counted theirs.counted in
      let found : AreAlike is.found its.found = record {
        places = values_by_total _ _ _ _ openers is.are_shown.places_are its.are_shown.places_are;
        looked = is.are_shown.looked_is ∙ are.count ∙ sym theirs.count
            ∙ sym its.are_shown.looked_is;
        margin = is.are_shown.margin_is ∙ are.margin ∙ sym theirs.margin
            ∙ sym its.are_shown.margin_is;
        next = next_is are is.are_shown ∙ sym (next_is theirs its.are_shown);
        cut = is.are_shown.cut_is ∙ sym its.are_shown.cut_is;
        verdict = verdict_is are is.are_shown ∙ sym (verdict_is theirs its.are_shown);
        told = is.are_shown.told_is ∙ sym its.are_shown.told_is;
        differs = ap names_in (is.are_shown.differs_is ∙ sym its.are_shown.differs_is);
      } in
      more_once below asked.detailed None None road layers is.found its.found one other refl found
      is.is_extended its.is_extended

  by_cost : (one other : ShownPlaces) → AreAskedByCost asked road layers one
      → AreAskedByCost asked road layers other → AreAlike one other
  by_cost one other is its =
      let are = is.are_likely in
      let their = its.are_likely in
      let answers = below.list layers.penalties are.answers their.answers are.are_answers
      their.are_answers in
      let widest = widest_once asked.limits are.widest their.widest are.are_widest their.are_widest in
      let looked = looked_once are.widest are.answers their.answers are.looked their.looked answers
      are.is_looked (subst (λ (by : PlaceLimits). IsLooked by road layers their.answers their.looked)
      (sym widest) their.is_looked) in
      let places = looked_at_once road are.widest are.looked.matchings are.places their.places
      are.are_looked_at
      (subst (λ (l : Looked). AreLookedAt road are.widest l.matchings their.places) (sym looked)
      (subst (λ (by : PlaceLimits). AreLookedAt road by their.looked.matchings their.places)
      (sym widest) their.are_looked_at)) in
      let answer = are.is_answer in
      let reanswer = their.is_answer in
      let listed = one_listed are.places their.places places asked.limits.within in
      let ending = one_ending asked.limits.within are.looked.ending are.places their.places places
      ∙ ap (λ (l : Looked). ending_within asked.limits.within their.places l.ending) looked in
      let verdict = answer.verdict_is
      ∙ (λ k. verdict_by (length (looked k).matchings) (listed k) (ending k))
      ∙ sym reanswer.verdict_is in
      let cut = answer.cut_is
      ∙ one_cut asked.limits.within (next_of are.looked) are.places their.places places
      ∙ ap (λ (l : Looked). is_cut asked.limits.within their.places (next_of l)) looked
      ∙ sym reanswer.cut_is in
      let found : AreAlike is.found its.found = record {
        places = values_by_cost _ _ _ _
            (shown_once are.places their.places places asked.limits _ _ answer.shown reanswer.shown)
            is.are_shown.places_are its.are_shown.places_are;
        looked = is.are_shown.looked_is ∙ answer.looked_is
            ∙ ap (λ (l : Looked). length l.matchings) looked ∙ sym reanswer.looked_is
            ∙ sym its.are_shown.looked_is;
        margin = is.are_shown.margin_is ∙ answer.margin_is
            ∙ one_margin are.places their.places places ∙ sym reanswer.margin_is
            ∙ sym its.are_shown.margin_is;
        next = is.are_shown.next_is ∙ answer.next_is ∙ ap next_of looked ∙ sym reanswer.next_is
            ∙ sym its.are_shown.next_is;
        cut = is.are_shown.cut_is ∙ ap Some cut ∙ sym its.are_shown.cut_is;
        verdict = is.are_shown.verdict_is ∙ verdict ∙ sym its.are_shown.verdict_is;
        told = is.are_shown.told_is ∙ sym its.are_shown.told_is;
        differs = ap names_in (is.are_shown.differs_is ∙ sym its.are_shown.differs_is);
      } in
      let chances = ap (option_map chances_value) answer.chances_are
      ∙ chances_if_once below road layers asked.confidence asked.limits.apart are.places their.places
      are.chances their.chances places are.are_chances their.are_chances
      ∙ sym (ap (option_map chances_value) reanswer.chances_are) in
      more_once below asked.detailed is.likely.chances its.likely.chances road layers is.found its.found
      one other chances found is.is_extended its.is_extended

  asked_once : (order : PlaceOrder) (one other : ShownPlaces)
      → AreAskedIn asked road layers order one → AreAskedIn asked road layers order other
      → AreAlike one other
  asked_once Total = by_total
  asked_once Likely = by_cost

-- ---- the law

pub one_text : LawsBelow → OneText
one_text below looking asked road layers one other sound is its =
    same_text road one other
    (asked_once below looking asked road layers sound asked.order one other is its)

pub one_json : LawsBelow → OneJson
one_json below looking asked on layers one other sound is its =
    same_json on one other
    (asked_once below looking asked on.road layers sound asked.order one other is its)

pub one_geojson : LawsBelow → OneGeoJson
one_geojson below looking asked on layers reference part one other sound is its =
    same_geojson on reference part one other
    (asked_once below looking asked on.road layers sound asked.order one other is its)
