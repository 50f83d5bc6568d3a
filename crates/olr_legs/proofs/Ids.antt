-- Lines by rising rank are by rising id.
use Rattle.std.proofs.Common.{◌≡◌, ℕ, ◌<◌, List, [], ◌∷◌, arith, length, get_or}
use Rattle.std.proofs.lemmas.List.{length-map}
use Rattle.std.proofs.lemmas.Map.Keys.{below_from_sorted, sorted_from_strictly_increasing}
use Rattle.std.proofs.lemmas.Option.{slice_get-map, slice_get_within, unwrap_or-slice_get}
use Rattle.olr_road.specs.RoadMap.{IsSoundMap, RoadMap, line_ids}
use Rattle.olr_route.specs.Route.{IsUpTo, id_at, ids_of}
use Rattle.olr_route.specs.Walk.{AreTurns}

id_is : (road : RoadMap) (rank : ℕ) → id_at road rank ≡ get_or (line_ids road.lines) rank 0
id_is road rank = grind (arith, slice_get-map, unwrap_or-slice_get (line_ids road.lines) rank 0)

ids_rise : (road : RoadMap) (a b : ℕ) → IsSoundMap road → a < b → b < length road.lines
    → id_at road a < id_at road b
ids_rise road a b sound less inside =
    grind (arith, id_is, length-map, below_from_sorted, sorted_from_strictly_increasing)

-- so the order of walks by the ranks of their lines is that by the ids
pub ids_up_to : (road : RoadMap) → IsSoundMap road → (line other : ℕ) (a b : List ℕ)
    → AreTurns road line a → AreTurns road other b → IsUpTo a b
    → IsUpTo (ids_of road a) (ids_of road b)
ids_up_to road sound line other [] b turns others up = tt
ids_up_to road sound line other (x ∷ a) [] turns others up = absurd up
ids_up_to road sound line other (x ∷ a) (y ∷ b) (turn, turns) (next, others) up =
    grind (arith, ids_rise, slice_get_within, ids_up_to road sound x y a b turns others)
