-- The matchings of a table: one candidate of each layer, each two neighbours joined by a leg. (A
-- decoder of the white paper takes one of these.)
use Rattle.std.specs.Prelude.{◌≡◌, ℕ, ◌+◌, List, [], ◌∷◌, length, Option, None, Some}
use Rattle.olr_keys.specs.Table.{Penalties, penalty_at, leg_at}
use Rattle.olr_keys.specs.Key.{KeyValue}

-- the penalty of the leg to a candidate of a layer from the one before it; 0 where there is none
-- before it
abbrev pub leg_to : Penalties → ℕ → Option ℕ → ℕ → Option ℕ
leg_to penalties layer None rank = Some 0
leg_to penalties layer (Some before) rank = leg_at penalties layer before rank

-- A completion from a layer on: one candidate of each layer from this one to the last, each joined
-- to the one before it. It is given by the ranks of these candidates; its total is the sum of their
-- penalties and of those of the legs to them. `before` is the candidate before the first of them,
-- if there is one.
abbrev pub IsCompletion : Penalties → ℕ → Option ℕ → List ℕ → ℕ → Type 0
IsCompletion penalties layer before [] total = (layer ≡ length penalties.candidates) × (total ≡ 0)
IsCompletion penalties layer before (rank ∷ ranks) total =
    (leg : ℕ) × (penalty : ℕ) × (rest : ℕ)
    × (leg_to penalties layer before rank ≡ Some leg)
    × (penalty_at penalties layer rank ≡ Some penalty)
    × IsCompletion penalties (layer + 1) (Some rank) ranks rest × (total ≡ leg + penalty + rest)

-- the key of a matching: the ranks of its candidates, and the sum of all its penalties
abbrev pub IsKey : Penalties → KeyValue → Type 0
IsKey penalties key = IsCompletion penalties 0 None key.ranks key.total

-- a remaining total of a candidate: the total of some completion that begins with it, without a leg
-- to it
abbrev pub IsRemainingTotal : Penalties → ℕ → ℕ → ℕ → Type 0
IsRemainingTotal penalties layer rank total = (ranks : List ℕ)
    × IsCompletion penalties layer None (rank ∷ ranks) total
