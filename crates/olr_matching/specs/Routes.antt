-- The routes that are kept while the parts of many matchings are made. Layers are counted from 0,
-- ranks from 1.
use Rattle.std.specs.Prelude.{◌≡◌, ℕ, ◌+◌, ◌*◌, ◌<◌, List, Option, Some}
use Rattle.std.specs.Global.{Vec}
use Rattle.olr_matching.specs.Common.{Piece, RoadMap}
use Rattle.olr_route.specs.Reach.{Lengths}
use Rattle.olr_matching.specs.Layers.{AreLayersOn, LayersValue}
use Rattle.olr_matching.specs.Matched.{IsPair, IsRouteOfPair}
use Rattle.olr_matching.specs.Searches.{AreSearchesOn}
use Rattle.olr_matching.specs.declared.pair.Pair.{Pair}

-- ---- pairs of candidates

-- the leg from its layer admits the two candidates of a pair, of at most 32 layers
pub record IsAdmittedPair (layers : LayersValue) (pair : Pair) : Type 0 where
  pub layer : pair.layer < 31
  pub length : ℕ
  pub is : IsPair layers pair.layer pair.first pair.second length

-- ---- what is kept

-- the number by which the route of a pair is kept: ranks are bytes
abbrev pub slot_of : ℕ → ℕ → ℕ → ℕ
slot_of layer first second = 65536 * layer + 256 * first + second

-- A map and the layers of a reference on it.
pub record RoutesValue : Type 0 where
  pub road : RoadMap
  pub layers : LayersValue

-- The layers are those of their reference on this map. Each search that is kept was made on it, and
-- each route is that of its pair, so any may be dropped.
pub record AreRoutesOn (road : RoadMap) (layers : LayersValue) (kept : List Lengths)
    (route_at : ℕ → Option (Vec Piece)) : Type 0 where
  pub sound : AreLayersOn road layers
  pub searches : AreSearchesOn road kept
  pub each : (layer first second : ℕ) (route : Vec Piece) → first < 256 → second < 256
      → route_at (slot_of layer first second) ≡ Some route
      → IsRouteOfPair road layers layer first second route.items
