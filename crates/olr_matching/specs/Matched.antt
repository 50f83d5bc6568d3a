-- The parts of a matching: the candidate of each point, and the length, the penalty and the route
-- of each leg. Layers and legs are counted from 0, the ranks of candidates from 1.
use Rattle.std.specs.Prelude.{◌≡◌, ℕ, ◌+◌, ◌-◌, ◌≤◌, List, length, Some, slice_get, All}
use Rattle.std.specs.List.{sum_by}
use Rattle.olr_matching.specs.Common.{Candidate, Next, Piece, Place, points_of, Reference, Tolerances}
use Rattle.olr_keys.specs.Key.{KeyValue}
use Rattle.olr_keys.specs.Matching.{IsKey}
use Rattle.olr_road.specs.Place.{IsPlace}
use Rattle.olr_road.specs.RoadMap.{RoadMap, IsSoundMap}
use Rattle.olr_route.specs.Route.{IsPieceOn, IsRouteWithin}
use Rattle.olr_route.specs.Walk.{piece_length}
use Rattle.olr_matching.specs.Layers.{LayersValue, AreLayersOn, IsCandidateOf, LeadsOn, length_at}
use Rattle.olr_matching.specs.Leg.{IsAdmitted, class_limit, leg_penalty}
use Rattle.olr_matching.specs.declared.matched.Leg.{Leg}
use Rattle.olr_matching.specs.declared.matched.Matched.{Matched}

-- ---- the parts of a key

-- the candidate of this rank in a layer; there is none of rank 0
abbrev pub IsOfRank : List (List Candidate) → ℕ → ℕ → Candidate → Type 0
IsOfRank candidates layer rank candidate = (1 ≤ rank)
    × IsCandidateOf candidates layer (rank - 1) candidate

-- each candidate is that of its rank in its layer
pub record AreCandidatesAt (candidates : List (List Candidate)) (ranks : List ℕ)
    (chosen : List Candidate) : Type 0 where
  pub count : length chosen ≡ length ranks
  pub each : (layer rank : ℕ) (candidate : Candidate) → slice_get ranks layer ≡ Some rank
      → slice_get chosen layer ≡ Some candidate
      → IsOfRank candidates layer rank candidate

-- the leg from one place to another: its length, which the leg admits, the penalty of this length,
-- and the route
pub record IsLegOf (road : RoadMap) (tolerances : Tolerances) (next : Next) (from to : Place)
    (leg : Leg) : Type 0 where
  pub admitted : IsAdmitted road tolerances next from to leg.length
  pub penalty : leg.penalty ≡ leg_penalty next leg.length
  pub route : IsRouteWithin road (class_limit tolerances next) from to leg.length leg.route

-- This is the leg from the candidate of a layer to that of the next one, by the attributes of the
-- path that the point of the layer has.
pub record IsLegAt (road : RoadMap) (layers : LayersValue) (chosen : List Candidate) (layer : ℕ)
    (leg : Leg) : Type 0 where
  pub next : Next
  pub from : Candidate
  pub to : Candidate
  pub leads_on : LeadsOn layers.reference layer next
  pub from_is : slice_get chosen layer ≡ Some from
  pub to_is : slice_get chosen (layer + 1) ≡ Some to
  pub leg_is : IsLegOf road layers.tolerances next from.place to.place leg

-- the legs between each two neighbouring candidates
pub record AreLegsBetween (road : RoadMap) (layers : LayersValue) (chosen : List Candidate)
    (legs : List Leg) : Type 0 where
  pub count : length legs + 1 ≡ length chosen
  pub each : (layer : ℕ) (leg : Leg) → slice_get legs layer ≡ Some leg
      → IsLegAt road layers chosen layer leg

-- the parts of the matching that has this key
pub record IsMatchedBy (road : RoadMap) (layers : LayersValue) (key : KeyValue)
    (matched : Matched) : Type 0 where
  pub candidates : AreCandidatesAt layers.candidates key.ranks matched.candidates
  pub legs : AreLegsBetween road layers matched.candidates matched.legs

-- ---- a pair of candidates

-- the leg from a layer admits the candidates of these ranks, with this length
pub record IsPair (layers : LayersValue) (layer first second length : ℕ) : Type 0 where
  pub next : Next
  pub from : Candidate
  pub to : Candidate
  pub leads_on : LeadsOn layers.reference layer next
  pub from_is : IsOfRank layers.candidates layer first from
  pub to_is : IsOfRank layers.candidates (layer + 1) second to
  pub length_is : length_at layers layer (first - 1) (second - 1) ≡ Some length

-- these are the pieces of the route between the candidates of these ranks
pub record IsRouteOfPair (road : RoadMap) (layers : LayersValue) (layer first second : ℕ)
    (pieces : List Piece) : Type 0 where
  pub length : ℕ
  pub pair : IsPair layers layer first second length
  pub route : IsRouteWithin road (class_limit layers.tolerances pair.next) pair.from.place
      pair.to.place length pieces

-- this is the leg between the candidates of these ranks
pub record IsLegOfPair (road : RoadMap) (layers : LayersValue) (layer first second : ℕ)
    (leg : Leg) : Type 0 where
  pub pair : IsPair layers layer first second leg.length
  pub leg_is : IsLegOf road layers.tolerances pair.next pair.from.place pair.to.place leg

-- The ranks name a candidate of each layer, and each leg admits the two between which it leads.
pub record AreRanks (layers : LayersValue) (ranks : List ℕ) : Type 0 where
  pub each : (layer rank : ℕ) → slice_get ranks layer ≡ Some rank → (candidate : Candidate)
      × IsOfRank layers.candidates layer rank candidate
  pub pairs : (layer first second : ℕ) → slice_get ranks layer ≡ Some first
      → slice_get ranks (layer + 1) ≡ Some second
      → (length : ℕ) × IsPair layers layer first second length

-- ---- what holds of the parts of every matching

-- The length of a leg is that of its route, 1 to 310,032 decimetres; its penalty is at most 100;
-- the pieces of its route lie on the map, forwards.
pub record IsSoundLeg (road : RoadMap) (leg : Leg) : Type 0 where
  pub length_is : leg.length ≡ sum_by piece_length leg.route
  pub long : 1 ≤ leg.length
  pub short : leg.length ≤ 310032
  pub penalty_at_most : leg.penalty ≤ 100
  pub pieces : All (IsPieceOn road) leg.route

-- There are as many candidates as the reference has points, each on the map, and one leg fewer.
pub record IsSoundMatched (road : RoadMap) (reference : Reference) (matched : Matched) : Type 0
  where
    pub candidates : length matched.candidates ≡ length (points_of reference)
    pub on_map : All (λ (candidate : Candidate). IsPlace road candidate.place) matched.candidates
    pub legs : length matched.legs + 1 ≡ length (points_of reference)
    pub each : All (IsSoundLeg road) matched.legs

-- the parts of the matching of every key of the answers are sound
abbrev pub AreSound : Type 0
AreSound = (road : RoadMap) (layers : LayersValue) (key : KeyValue) (matched : Matched)
    → IsSoundMap road → AreLayersOn road layers
    → IsKey layers.penalties key → IsMatchedBy road layers key matched
    → IsSoundMatched road layers.reference matched

-- ---- one value

-- two values have the same candidates and legs
abbrev pub IsSameMatched : Matched → Matched → Type 0
IsSameMatched a b = a ≡ b

-- a key has one value of parts at most
abbrev pub OneMatched : Type 0
OneMatched = (road : RoadMap) (layers : LayersValue) (key : KeyValue) (a b : Matched)
    → IsSoundMap road → IsMatchedBy road layers key a
    → IsMatchedBy road layers key b → IsSameMatched a b
