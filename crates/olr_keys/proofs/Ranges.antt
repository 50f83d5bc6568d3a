-- The key of a matching is in the ranges of a key.
use Rattle.olr_keys.proofs.Common.{◌≡◌, ℕ, zero, suc, ◌+◌, ◌≤◌, List, [], ◌∷◌, length, All, Option, Some, None, arith, All-nil, slice_get_within, Penalties, IsTable, count_of, penalty_at, max_total, IsCompletion, KeysAreInRange}
use Rattle.olr_keys.proofs.Bounds.{count_at_most}
use Rattle.olr_keys.proofs.Completions.{step_penalty, completion_at_most}

-- a candidate's rank is from 1 to the count of its layer
pub rank_inside : (p : Penalties) (layer rank penalty : ℕ) → penalty_at p layer rank ≡ Some penalty
    → (1 ≤ rank) × (rank ≤ count_of p layer)
rank_inside p layer zero penalty is = absurd cc
rank_inside p layer (suc index) penalty is = grind (arith, slice_get_within)

completion_ranks : (p : Penalties) (layer : ℕ) (before : Option ℕ) (ranks : List ℕ) (total : ℕ)
    → IsTable p → IsCompletion p layer before ranks total
    → All (λ (rank : ℕ). (1 ≤ rank) × (rank ≤ 64)) ranks
completion_ranks p layer before [] total sound completion = All-nil _
completion_ranks p layer before (rank ∷ ranks) total sound
    (leg, penalty, rest, joined, there, later, sum) =
    grind (
      arith,
      rank_inside,
      count_at_most,
      completion_ranks p (layer + 1) (Some rank) ranks rest sound later,
    )

-- it has a rank for each layer
pub completion_length : (p : Penalties) (layer : ℕ) (before : Option ℕ) (ranks : List ℕ) (total : ℕ)
    → IsCompletion p layer before ranks total → layer + length ranks ≡ length p.candidates
completion_length p layer before [] total completion = omega arith
completion_length p layer before (rank ∷ ranks) total
    (leg, penalty, rest, joined, there, later, sum) =
    omega (arith, completion_length p (layer + 1) (Some rank) ranks rest later)

-- there is no leg to the first candidate
start_at_most : {p : Penalties} (ranks : List ℕ) {total : ℕ} → IsTable p
    → IsCompletion p 0 None ranks total → total ≤ max_total
start_at_most [] sound completion = omega arith
start_at_most (rank ∷ ranks) sound (leg, penalty, rest, joined, there, later, sum) =
    grind (arith, step_penalty, completion_at_most, completion_length)

pub key_in_range : KeysAreInRange
key_in_range p key sound is = grind (arith, start_at_most, completion_length, completion_ranks)
