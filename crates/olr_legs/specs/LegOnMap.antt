-- A leg on a map, with its route.
use Rattle.std.specs.Prelude.{◌≡◌, ℕ, ◌^◌, ◌<◌, List}
use Rattle.olr_binary.specs.declared.point.Next.{Next}
use Rattle.olr_candidates.specs.declared.candidate.Candidate.{Candidate}
use Rattle.olr_matching.specs.Layers.{LayersValue}
use Rattle.olr_matching.specs.Leg.{class_limit}
use Rattle.olr_matching.specs.declared.matched.Leg.{Leg}
use Rattle.olr_matching.specs.declared.matched.Matched.{Matched}
use Rattle.olr_road.specs.RoadMap.{RoadMap}
use Rattle.olr_road.specs.Place.{IsDeparture, IsPlace}
use Rattle.olr_route.specs.Least.{IsLeastLength}
use Rattle.olr_route.specs.Route.{IsRouteWithin}
use Rattle.olr_legs.specs.Legs.{IsPartAt}
use Rattle.olr_legs.specs.Other.{IsApart, IsOther}
use Rattle.olr_legs.specs.declared.leg_on_map.LegOnMap.{LegOnMap}
use Rattle.olr_legs.specs.declared.other.Other.{Other}

-- The places are on the map, and a vehicle can drive on from the first one. The leg has the least
-- length and the route between them under its class limit.
pub record IsLegOnMap (leg : LegOnMap) : Type 0 where
  pub from : IsDeparture leg.map.now leg.from
  pub to : IsPlace leg.map.now leg.to
  pub least : IsLeastLength leg.map.now leg.limit leg.from leg.to leg.length
  pub route : IsRouteWithin leg.map.now leg.limit leg.from leg.to leg.length leg.route.now
  pub short : leg.length < 2 ^ 32

-- walks that are apart from its route
abbrev pub IsApartOf : LegOnMap → List ℕ → Type 0
IsApartOf leg = IsApart leg.map.now leg.limit leg.from leg.to leg.route.now

-- its other path
abbrev pub IsOtherOf : LegOnMap → ℕ → Other → Type 0
IsOtherOf leg near = IsOther leg.map.now leg.limit leg.from leg.to leg.route.now leg.length near

-- this is the leg from a layer
pub record IsLegAtLayer (road : RoadMap) (layers : LayersValue) (matched : Matched) (layer : ℕ)
    (next : Next) (on_map : LegOnMap) : Type 0 where
  pub from : Candidate
  pub to : Candidate
  pub leg : Leg
  pub part : IsPartAt road layers matched layer next from to leg
  pub map_is : on_map.map.now ≡ road
  pub limit_is : on_map.limit ≡ class_limit layers.tolerances next
  pub starts_at : on_map.from ≡ from.place
  pub ends_at : on_map.to ≡ to.place
  pub route_is : on_map.route.now ≡ leg.route
  pub length_is : on_map.length ≡ leg.length
