-- The legs of a matching: their routes, and what else could be driven. Lengths are in decimetres,
-- layers are counted from 0.
use Rattle.std.specs.Prelude.{◌≡◌, ℕ, ◌+◌, List, length, Some, slice_get}
use Rattle.olr_binary.specs.declared.point.Next.{Next}
use Rattle.olr_candidates.specs.declared.candidate.Candidate.{Candidate}
use Rattle.olr_keys.specs.Key.{KeyValue}
use Rattle.olr_matching.specs.Layers.{LayersValue, LeadsOn}
use Rattle.olr_matching.specs.Leg.{class_limit, interval_end, interval_start}
use Rattle.olr_matching.specs.Matched.{IsMatchedBy}
use Rattle.olr_matching.specs.declared.matched.Leg.{Leg}
use Rattle.olr_matching.specs.declared.matched.Matched.{Matched}
use Rattle.olr_road.specs.RoadMap.{RoadMap}
use Rattle.olr_road.specs.declared.place.Place.{Place}
use Rattle.olr_route.specs.declared.piece.Piece.{Piece}
use Rattle.olr_legs.specs.Other.{IsOther}
use Rattle.olr_legs.specs.Shorter.{IsFirstShorter}
use Rattle.olr_legs.specs.declared.legs.LegAlternatives.{LegAlternatives}

-- What else could be driven for a leg from one place to another under a class limit, by the
-- attributes of its path, its length and its route. The leg itself is told too, with the least and
-- the greatest length in the distance interval of the path.
pub record AreAlternatives (road : RoadMap) (limit : ℕ) (from to : Place) (next : Next) (length : ℕ)
    (route : List Piece) (near : ℕ) (leg : LegAlternatives) : Type 0 where
  pub pieces_are : leg.pieces.items ≡ route
  pub length_is : leg.length ≡ length
  pub least_is : leg.least ≡ interval_start next
  pub greatest_is : leg.greatest ≡ interval_end next
  pub limit_is : leg.limit ≡ limit
  pub other : IsOther road limit from to route length near leg.other
  pub shorter : IsFirstShorter road from to length limit leg.shorter

module _ (road : RoadMap) (layers : LayersValue) (matched : Matched) where
  -- these are the parts of a matching of the layers
  abbrev pub HasKey : Type 0
  HasKey = (key : KeyValue) × IsMatchedBy road layers key matched

  -- The leg from a layer: the attributes of its path, its candidates, and itself.
  pub record IsPartAt (layer : ℕ) (next : Next) (from to : Candidate) (leg : Leg) : Type 0 where
    pub leads_on : LeadsOn layers.reference layer next
    pub from_is : slice_get matched.candidates layer ≡ Some from
    pub to_is : slice_get matched.candidates (layer + 1) ≡ Some to
    pub leg_is : slice_get matched.legs layer ≡ Some leg

  -- what else could be driven for the leg from a layer
  pub record AreAlternativesAt (near layer : ℕ) (alternatives : LegAlternatives) : Type 0 where
    pub next : Next
    pub from : Candidate
    pub to : Candidate
    pub leg : Leg
    pub part : IsPartAt layer next from to leg
    pub are : AreAlternatives road (class_limit layers.tolerances next) from.place to.place next
        leg.length leg.route near alternatives

  -- all legs, in order
  pub record AreAlternativesOf (near : ℕ) (legs : List LegAlternatives) : Type 0 where
    pub count : length legs ≡ length matched.legs
    pub each : (layer : ℕ) (alternatives : LegAlternatives)
        → slice_get legs layer ≡ Some alternatives → AreAlternativesAt near layer alternatives
