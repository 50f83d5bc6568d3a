-- What the inner steps of the plain finder compute: the least key that completes the beginning of a
-- matching. No public call states these: a reader of the contracts may skip this file.
use Rattle.std.specs.Prelude.{◌≡◌, ℕ, ◌+◌, List, ◌++◌, length, Option, None, Some}
use Rattle.olr_keys.specs.Table.{Penalties, penalty_at}
use Rattle.olr_keys.specs.Key.{KeyValue}
use Rattle.olr_keys.specs.Matching.{IsKey, IsCompletion, leg_to}

-- the key is the one that is held, if one is
abbrev pub IsHeld : Option KeyValue → KeyValue → Type 0
IsHeld None key = ⊥
IsHeld (Some held) key = key ≡ held

-- the candidate of this rank is joined to the one before it: its penalty and that of the leg to it
-- have this sum
abbrev pub IsJoined : Penalties → ℕ → Option ℕ → ℕ → ℕ → Type 0
IsJoined penalties layer before rank sum =
    (leg : ℕ) × (penalty : ℕ) × (leg_to penalties layer before rank ≡ Some leg)
    × (penalty_at penalties layer rank ≡ Some penalty) × (sum ≡ leg + penalty)

-- the key completes a beginning of a matching: candidates of the first layers with these ranks and
-- this total, the last of them `before`
abbrev pub Completes : Penalties → Option ℕ → ℕ → List ℕ → KeyValue → Type 0
Completes penalties before total ranks key =
    (rest : List ℕ) × (more : ℕ) × IsCompletion penalties (length ranks) before rest more
    × (key ≡ record { total = total + more; ranks = ranks ++ rest })

-- whatever completes the beginning is the key of a matching
abbrev pub IsBeginning : Penalties → Option ℕ → ℕ → List ℕ → Type 0
IsBeginning penalties before total ranks = (key : KeyValue)
    → Completes penalties before total ranks key → IsKey penalties key
