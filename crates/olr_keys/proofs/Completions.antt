-- How great the total of a completion is.
use Rattle.olr_keys.proofs.Common.{◌≡◌, ℕ, zero, suc, ◌+◌, ◌*◌, ◌<◌, ◌≤◌, List, [], ◌∷◌, length, Option, Some, None, arith, ◌==◌, Decides, IfSome, get_or-eq_default, cases_lt, Penalties, IsTable, penalty_at, max_leg, max_penalty, max_step, KeyValue, leg_to, IsKey, IsCompletion}
use Rattle.olr_keys.proofs.Bounds.{penalty_at_most, leg_at_most}

some_at_most : {o : Option ℕ} {x bound : ℕ} → o ≡ Some x → IfSome o (λ n. n ≤ bound) → x ≤ bound
some_at_most {bound} is at_most = rw is at at_most

-- a candidate is in one of the layers
pub layer_inside : (p : Penalties) (layer rank penalty : ℕ) → penalty_at p layer rank ≡ Some penalty
    → layer < length p.candidates
layer_inside p layer zero penalty is = absurd cc
layer_inside p layer (suc index) penalty is = grind (arith, cases_lt, get_or-eq_default)

pub step_penalty : {p : Penalties} {penalty : ℕ} (layer rank : ℕ) → IsTable p
    → penalty_at p layer rank ≡ Some penalty → penalty ≤ max_penalty
step_penalty layer rank sound is = some_at_most is (penalty_at_most _ _ _ sound)

pub step_leg : {p : Penalties} {layer : ℕ} (before : Option ℕ) {leg : ℕ} (rank : ℕ) → IsTable p
    → layer < length p.candidates → leg_to p layer before rank ≡ Some leg → leg ≤ max_leg
step_leg None rank sound inside is = some_at_most is (omega arith)
step_leg (Some before) rank sound inside is = some_at_most is (leg_at_most _ _ _ _ sound inside)

pub completion_at_most : (p : Penalties) (layer : ℕ) (before : Option ℕ) (ranks : List ℕ)
    {total : ℕ} → IsTable p → IsCompletion p layer before ranks total
    → total ≤ max_step * length ranks
completion_at_most p layer before [] sound completion = omega arith
completion_at_most p layer before (rank ∷ ranks) sound
    (leg, penalty, rest, joined, there, later, sum) =
    grind (
      arith,
      layer_inside,
      step_leg,
      step_penalty,
      completion_at_most p (layer + 1) (Some rank) ranks {total = rest} sound later,
    )

-- ---- one total

pub same_some : {X : Type 0} {o : Option X} (x y : X) → o ≡ Some x → o ≡ Some y → x ≡ y
same_some x y one other = cc

pub one_total : (p : Penalties) (layer : ℕ) (before : Option ℕ) (ranks : List ℕ) (a b : ℕ)
    → IsCompletion p layer before ranks a → IsCompletion p layer before ranks b → a ≡ b
one_total p layer before [] a b one other = omega arith
one_total p layer before (rank ∷ ranks) a b (leg, penalty, rest, joined, there, later, sum)
    (leg', penalty', rest', joined', there', later', sum') =
    grind (arith, same_some, one_total p (layer + 1) (Some rank) ranks rest rest' later later')

-- ranks with this total are the key of a matching exactly where the key has it
pub key_decides : (p : Penalties) (key : KeyValue) {ranks : List ℕ} (total known : ℕ)
    → ranks ≡ key.ranks → IsCompletion p 0 None ranks total → known ≡ key.total
    → Decides (total == known) (IsKey p key)
key_decides p key total known same completion is = grind (arith, one_total)
