-- How probable the places are that were looked at, by a confidence.
use Rattle.std.specs.Prelude.{◌≡◌, ℕ, Bool, true, false, List, [], ◌∷◌, length, Option, None, Some}
use Rattle.std.specs.List.{AllZip}
use Rattle.olr_binary.specs.declared.reference.Reference.{Reference}
use Rattle.olr_binary.specs.declared.reference.Reference.TheVariants.{Line}
use Rattle.olr_candidates.specs.declared.tolerances.Tolerances.{Tolerances}
use Rattle.olr_confidence.specs.Asked.{asked_with, others_of}
use Rattle.olr_confidence.specs.Terms.{AreTermsOf}
use Rattle.olr_confidence.specs.Worths.{AreProbable}
use Rattle.olr_confidence.specs.declared.asked.AskedName.{AskedName}
use Rattle.olr_confidence.specs.declared.confidence.Confidence.{Confidence}
use Rattle.olr_confidence.specs.declared.terms.Terms.{Terms}
use Rattle.olr_road.specs.RoadMap.{RoadMap}
use Rattle.olr_matching.specs.Layers.{LayersValue}
use Rattle.olr_detail.specs.MatchingDetail.{IsMatchingDetail}
use Rattle.olr_detail.specs.declared.matching_detail.MatchingDetail.{MatchingDetail}
use Rattle.olr_likely.specs.Order.{least_cost}
use Rattle.olr_likely.specs.declared.chances.Chances.{Chances}
use Rattle.olr_likely.specs.declared.chances.KnownChances.{KnownChances}
use Rattle.olr_likely.specs.declared.ranked.RankedPlace.{RankedPlace}

-- what counts for and against a place, by what speaks for the matching that opened it, and by how many
-- lines its route has
pub record HasTerms (tolerances : Tolerances) (reference : Reference) (road : RoadMap)
    (place : RankedPlace) (terms : Terms) : Type 0 where
  pub detail : MatchingDetail
  pub is_detail : IsMatchingDetail tolerances reference road place.opener.matched
      place.opener.route.items detail
  pub are_terms : AreTermsOf detail (length place.opener.route.items) terms

-- a reference is a line
abbrev pub is_line : Reference → Bool
is_line (Line points positive negative) = true
is_line other = false

-- how probable places are is known of a line where no number differs
abbrev pub are_known : List AskedName → Reference → Bool
are_known [] reference = is_line reference
are_known (name ∷ names) reference = false

-- what counts for and against each place
abbrev pub AreTermsOfPlaces : RoadMap → LayersValue → List RankedPlace → List Terms → Type 0
AreTermsOfPlaces road layers places terms =
    AllZip (HasTerms layers.tolerances layers.reference road) places terms

module _ (confidence : Confidence) (road : RoadMap) (layers : LayersValue)
    (places : List RankedPlace) where
  -- how probable places are, given by rank, and the least cost of all
  pub record AreKnownChances (known : KnownChances) : Type 0 where
    pub terms : List Terms
    pub are_terms : AreTermsOfPlaces road layers places terms
    pub are_probable : AreProbable confidence.weights terms known.probabilities
    pub least_is : known.least ≡ least_cost places

  -- the same where it is known, and only there
  abbrev pub IsKnown : Bool → Option KnownChances → Type 0
  IsKnown false known = known ≡ None
  IsKnown true None = ⊥
  IsKnown true (Some known) = AreKnownChances known

-- What a confidence says of places, which are given by rank, where `apart` was asked for with them:
-- which numbers differ from its own, and how probable the places are, if that is known.
pub record AreChances (confidence : Confidence) (apart : ℕ) (road : RoadMap) (layers : LayersValue)
    (places : List RankedPlace) (chances : Chances) : Type 0 where
  pub confidence_is : chances.confidence ≡ confidence
  pub differs_are : chances.differs.items
      ≡ others_of (asked_with layers.tolerances apart) confidence.asked
  pub known_is : IsKnown confidence road layers places
      (are_known chances.differs.items layers.reference) chances.known

-- where a confidence is given
abbrev pub AreChancesIf : Option Confidence → ℕ → RoadMap → LayersValue → List RankedPlace
    → Option Chances → Type 0
AreChancesIf None apart road layers places chances = chances ≡ None
AreChancesIf (Some confidence) apart road layers places None = ⊥
AreChancesIf (Some confidence) apart road layers places (Some chances) =
    AreChances confidence apart road layers places chances
