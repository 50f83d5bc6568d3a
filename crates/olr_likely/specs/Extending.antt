-- Places with more than they always show: what speaks for each, and how probable it is.
use Rattle.std.specs.Prelude.{◌≡◌, ℕ, ◌-◌, Bool, true, false, if◌then◌else◌, List, length, Option, None, Some, option_map, option_and_then, slice_index_or}
use Rattle.std.specs.Global.{Vec}
use Rattle.std.specs.List.{AllZip}
use Rattle.olr_binary.specs.declared.reference.Reference.{Reference}
use Rattle.olr_candidates.specs.declared.tolerances.Tolerances.{Tolerances}
use Rattle.olr_confidence.specs.Reasons.{AreReasonsOf}
use Rattle.olr_confidence.specs.declared.confidence.Weights.{Weights}
use Rattle.olr_road.specs.RoadMap.{RoadMap}
use Rattle.olr_matching.specs.Layers.{LayersValue}
use Rattle.olr_detail.specs.MatchingDetail.{IsMatchingDetail}
use Rattle.olr_detail.specs.declared.matching_detail.MatchingDetail.{MatchingDetail}
use Rattle.olr_confidence.specs.declared.asked.AskedName.{AskedName}
use Rattle.olr_likely.specs.Values.{ToldPlaceValue}
use Rattle.olr_likely.specs.declared.told.ToldPlaces.{ToldPlaces}
use Rattle.olr_likely.specs.declared.chances.Chances.{Chances}
use Rattle.olr_likely.specs.declared.chances.KnownChances.{KnownChances}
use Rattle.olr_likely.specs.declared.showing.RankAndCost.{RankAndCost}
use Rattle.olr_likely.specs.declared.showing.ShownPlace.{ShownPlace}
use Rattle.olr_likely.specs.declared.showing.ShownPlaces.{ShownPlaces}

-- ---- what a confidence says

-- the probability of a place in the likely order: it is that of its rank, from 1
abbrev pub probability_at : List ℕ → Option RankAndCost → ℕ
probability_at probabilities None = 0
probability_at probabilities (Some likely) = slice_index_or probabilities (likely.rank - 1) 0

-- of a place, where this is how probable all are, and this speaks for the matching that opened it
pub record IsSaid (weights : Weights) (known : KnownChances) (place : ShownPlace)
    (detail : MatchingDetail) (said : ToldPlaceValue) : Type 0 where
  pub probability_is : said.probability
      ≡ probability_at known.probabilities.places.items place.likely
  pub are_reasons : AreReasonsOf weights detail known.least (length place.opener.route.items)
      said.reasons

-- the same where it is known
abbrev pub IsSaidIf : Weights → Option KnownChances → ShownPlace → MatchingDetail
    → Option ToldPlaceValue → Type 0
IsSaidIf weights None place detail said = said ≡ None
IsSaidIf weights (Some known) place detail None = ⊥
IsSaidIf weights (Some known) place detail (Some said) = IsSaid weights known place detail said

-- and where a confidence is given
abbrev pub IsTold : Option Chances → ShownPlace → MatchingDetail
    → Option (Option ToldPlaceValue) → Type 0
IsTold None place detail told = told ≡ None
IsTold (Some chances) place detail None = ⊥
IsTold (Some chances) place detail (Some said) =
    IsSaidIf chances.confidence.weights chances.known place detail said

-- of all places, if it is known how probable they are
abbrev pub told_of : Chances → ToldPlaces
told_of chances = record {
  none = option_map (λ (known : KnownChances). known.probabilities.none) chances.known;
  map_differs = option_and_then (λ (known : KnownChances). chances.confidence.map_differs)
      chances.known;
}

-- which numbers differ
abbrev pub differs_of : Chances → List AskedName
differs_of chances = chances.differs.items

abbrev pub names_in : Option (Vec AskedName) → Option (List AskedName)
names_in differs = option_map (λ (names : Vec AskedName). names.items) differs

-- ---- places with more

module _ (detailed : Bool) (chances : Option Chances) where
  -- a place with what speaks for the matching that opened it, if that is asked for, and with what a
  -- confidence says of it, if one is given
  pub record IsExtendedPlace (tolerances : Tolerances) (reference : Reference) (road : RoadMap)
      (place extended : ShownPlace) : Type 0 where
    pub detail : MatchingDetail
    pub told : Option (Option ToldPlaceValue)
    pub is_detail : IsMatchingDetail tolerances reference road place.opener.matched
        place.opener.route.items detail
    pub is_told : IsTold chances place detail told
    pub extended_is : extended ≡ record place {
      detail = if detailed then Some detail else None;
      told = told;
    }

  module _ (road : RoadMap) (layers : LayersValue) where
    abbrev pub AreExtendedPlaces : List ShownPlace → List ShownPlace → Type 0
    AreExtendedPlaces places extended =
        AllZip (IsExtendedPlace layers.tolerances layers.reference road) places extended

    -- the same with more of each place and of all: nothing else changes
    pub record AreExtended (shown extended : ShownPlaces) : Type 0 where
      pub places : AreExtendedPlaces shown.places.items extended.places.items
      pub told_is : extended.told ≡ option_map told_of chances
      pub differs_are : names_in extended.differs ≡ option_map differs_of chances
      pub rest_is : extended ≡ record shown {
        places = extended.places;
        told = extended.told;
        differs = extended.differs;
      }

-- the same places, with more where more is asked for
abbrev pub IsExtended : Bool → Option Chances → RoadMap → LayersValue → ShownPlaces → ShownPlaces
    → Type 0
IsExtended false None road layers shown extended = extended ≡ shown
IsExtended false (Some chances) road layers shown extended =
    AreExtended false (Some chances) road layers shown extended
IsExtended true chances road layers shown extended =
    AreExtended true chances road layers shown extended
