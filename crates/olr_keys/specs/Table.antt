-- The penalties that a search for matchings goes by. A layer is the candidates of one point of a
-- reference, each named by its rank, from 1; layers are counted from 0. A leg joins a candidate to
-- one of the next layer.
use Rattle.std.specs.Prelude.{◌≡◌, ℕ, zero, suc, ◌+◌, ◌-◌, ◌*◌, ◌≤◌, List, [], length, map, Option, None, Some, IfSome, slice_get, slice_index_or, All}
use Rattle.std.specs.List.Sorted.{IsNonDecreasing}
use Rattle.std.specs.Global.{Vec}

-- ---- how great penalties are

-- the greatest penalty of a candidate: 100 for its distance, 160 for its bearing, 70 for its class
-- and 30 for its form
abbrev pub max_penalty : ℕ
max_penalty = 360

-- the greatest penalty of a leg: 100 for its length
abbrev pub max_leg : ℕ
max_leg = 100

-- the greatest penalty of a candidate and the leg to it
abbrev pub max_step : ℕ
max_step = max_penalty + max_leg

-- the greatest total of a matching: 32 candidates and the 31 legs between them
abbrev pub max_total : ℕ
max_total = 32 * max_penalty + 31 * max_leg

-- ---- tables

-- The penalty of each candidate of each layer, by rank; and of each two neighbouring layers the
-- penalties of the legs, by the rank of the first candidate and then by that of the second: none
-- where the two aren't joined.
pub record Penalties : Type 0 where
  pub candidates : List (List ℕ)
  pub legs : List (List (Option ℕ))

-- the penalties of these lists
abbrev pub penalties_of : List (Vec ℕ) → List (Vec (Option ℕ)) → Penalties
penalties_of candidates legs = record {
  candidates =
      map (λ (layer : Vec ℕ). layer.items) candidates;
  legs =
      map (λ (between : Vec (Option ℕ)). between.items) legs;
}

-- how many candidates a layer has, 0 where there is no such layer
abbrev pub count_of : Penalties → ℕ → ℕ
count_of penalties layer = length (slice_index_or penalties.candidates layer [])

-- the candidates of a layer: at most 64, with penalties that don't fall
pub record IsLayer (layer : List ℕ) : Type 0 where
  pub at_most : length layer ≤ 64
  pub rise : IsNonDecreasing layer
  pub each : All (λ (penalty : ℕ). penalty ≤ max_penalty) layer

-- the legs between layers of so many candidates: one entry for each pair, with a penalty where a
-- leg joins the two
pub record AreLegs (first second : ℕ) (legs : List (Option ℕ)) : Type 0 where
  pub pairs : length legs ≡ first * second
  pub each : All (λ (leg : Option ℕ). IfSome leg (λ penalty. penalty ≤ max_leg)) legs

-- the legs from a layer to the next one
abbrev pub AreLegsFrom : Penalties → ℕ → Type 0
AreLegsFrom penalties layer = AreLegs (count_of penalties layer) (count_of penalties (layer + 1))
    (slice_index_or penalties.legs layer [])

-- penalties of 2 to 32 layers, and of the legs between each two neighbours
pub record IsTable (penalties : Penalties) : Type 0 where
  pub layers_at_least : 2 ≤ length penalties.candidates
  pub layers_at_most : length penalties.candidates ≤ 32
  pub layers : All IsLayer penalties.candidates
  pub between : length penalties.legs + 1 ≡ length penalties.candidates
  pub legs : (layer : ℕ) (legs : List (Option ℕ)) → slice_get penalties.legs layer ≡ Some legs
      → AreLegs (count_of penalties layer) (count_of penalties (layer + 1)) legs

-- ---- one candidate, one leg

-- the penalty of a candidate, by its layer and rank, if there is one
abbrev pub penalty_at : Penalties → ℕ → ℕ → Option ℕ
penalty_at penalties layer zero = None
penalty_at penalties layer (suc index) =
    slice_get (slice_index_or penalties.candidates layer []) index

-- the penalty of the leg to a candidate of a layer from one of the layer before, by rank, if the
-- two are joined
abbrev pub leg_at : Penalties → ℕ → ℕ → ℕ → Option ℕ
leg_at penalties layer before rank =
    slice_index_or (slice_index_or penalties.legs (layer - 1) [])
    ((before - 1) * count_of penalties layer + (rank - 1)) None
