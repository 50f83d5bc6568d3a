-- A leg of a reference on a map, between the candidates of its two points.
use Rattle.std.specs.Prelude.{◌≡◌, ℕ, ◌+◌, List, [], All, slice_index_or}
use Rattle.olr_matching.specs.Common.{Candidate, Reference, RoadMap, Tolerances}
use Rattle.olr_road.specs.Place.{IsDeparture, IsPlace}
use Rattle.olr_matching.specs.Layers.{LeadsOn}
use Rattle.olr_matching.specs.declared.leg_on_map.LegOnMap.{LegOnMap}

-- the candidates of a leg are on its map, and a vehicle can drive on from the first ones
pub record EndsAreOnMap (leg : LegOnMap) : Type 0 where
  pub departures : All (λ (first : Candidate). IsDeparture leg.map.now first.place) leg.firsts.now
  pub places : All (λ (second : Candidate). IsPlace leg.map.now second.place) leg.seconds.now

-- this is the leg from a point of a reference, counted from 0, to the next one, between these
-- candidates of its points
pub record IsLegFrom (road : RoadMap) (tolerances : Tolerances) (reference : Reference)
    (candidates : List (List Candidate)) (layer : ℕ)
    (leg : LegOnMap) : Type 0 where
  pub ends : EndsAreOnMap leg
  pub map_is : leg.map.now ≡ road
  pub tolerances_are : leg.tolerances ≡ tolerances
  pub leads_on : LeadsOn reference layer leg.next
  pub firsts_are : leg.firsts.now ≡ slice_index_or candidates layer []
  pub seconds_are : leg.seconds.now ≡ slice_index_or candidates (layer + 1) []
